-- `emit` meets its contract: both questions, one after the other, at an Emit, which stands in the entry that is told.
use native.Mathlib.Omega.{arith}
use mathlib.Core.Path.{sym, ◌∙◌}
use Rattle.records.proofs.Laws.{asked, added-nothing, added-as, added-join}
use Rattle.records.proofs.Sweep.{has_one, has-not, keep_one, keep-none}
use Rattle.nodes.specs.Entries.{HeldPart}
use Rattle.nodes.proofs.Entries.{held_in}
use Rattle.resolve_emits.specs.Emitted.{IsKind, Emitted}
use Rattle.resolve_emits.proofs.Lent.{noted_of}
use Rattle.resolve_emits.proofs.emit.Goals as goal

pub returns-then-kind-ne-EMIT : goal.returns-then-kind-ne-EMIT
returns-then-kind-ne-EMIT c = added-nothing (λ h. keep-none _ _ (has-not _ 26 (λ e. c.if-kind-ne-EMIT.true (c.kind.ensures h.seen.body.view ∙ e))))

pub rule30-requires : goal.rule30-requires
rule30-requires c =
    let is-emit : IsKind c.args.nodes.now c.args.base c.args.p 26 = (c.requires.1, λ W. sym (c.kind.ensures W) ∙ c.if-kind-ne-EMIT.false) in
    (noted_of c.requires.0, is-emit)

pub rule31-requires : goal.rule31-requires
rule31-requires c =
    let is-emit : IsKind c.args.nodes.now c.args.base c.args.p 26 = (c.requires.1, λ W. sym (c.kind.ensures W) ∙ c.if-kind-ne-EMIT.false) in
    (c.requires.0, is-emit)

pub emit_if-requires : goal.emit_if-requires
emit_if-requires c = let f = c.emit_if-total.ensures.few in let l = c.requires.2 in let p = c.requires.1 in let e = c.requires.3 in (omega arith, omega arith, omega arith)

pub returns : goal.returns
returns c =
    let is-emit : IsKind c.args.nodes.now c.args.base c.args.p 26 = (c.requires.1, λ W. sym (c.kind.ensures W) ∙ c.if-kind-ne-EMIT.false) in
    let Given : Type 0 = HeldPart c.args.nodes.now c.args.base c.args.entry (Emitted c.args.nodes.now c.args.base c.args.area.now c.args.last.now) in
    added-as (λ (h : Given). sym (keep_one _ _ (has_one _ 26 ((is-emit).1 h.seen.body.view))))
    (added-join (asked (λ (h : Given). noted_of h.seen) 30 _ (λ h. held_in c.args.nodes.now h c.requires.1) _ c.rule30.ensures c.emit_if-total.ensures) (asked (λ (h : Given). h.seen) 31 _ (λ h. held_in c.args.nodes.now h c.requires.1) _ c.rule31.ensures c.emit_if.ensures))
