-- `invariant` meets its contract: another item has no 50; in an Invariant each node is asked.
use native.Mathlib.Omega.{arith}
use mathlib.Core.Path.{◌≡◌, ◌∙◌, sym, refl}
use Rattle.rules.specs.Tree.{ident}
use Rattle.rules.specs.All.{entry_of}
use Rattle.rules.specs.Access.{rule50}
use Rattle.records.proofs.Laws.{asked, added-nothing}
use Rattle.records.proofs.Sweep.{sweep-starts, sweep-again, swept, run-below, keep_one, keep-none, has_one, has-not}
use Rattle.nodes.specs.Shown.{tree_of}
use Rattle.nodes.proofs.Entries.{none-holds}
use Rattle.nodes.proofs.Spans.{span_below}
use Rattle.nodes.specs.State.{State}
use Rattle.access.proofs.invariant.Goals as goal

pub returns-then-kind-ne-INVARIANT : goal.returns-then-kind-ne-INVARIANT
returns-then-kind-ne-INVARIANT c = added-nothing (λ T. keep-none _ _ (has-not _ 8 (λ e. c.if-kind-ne-INVARIANT.true (c.kind.ensures T.view ∙ e))))

pub loop-p-init : goal.loop-p-init
loop-p-init c = let W = c.requires.0.view in let S = span_below W c.requires.1 (c.end-end.ensures W) in (S, sweep-starts S.order)

pub loop-p-preserved : goal.loop-p-preserved
loop-p-preserved c =
    let no-entry : (T : State c.args.nodes.now 0 c.args.state.now) → entry_of (tree_of T.view) c.loop-p.p ≡ 0 = λ T. let W = T.view in
    let l = c.loop-p.invariant.1.low in
    let e = c.end-end.ensures W in
    let h = c.loop-p-test.true in
    none-holds W c.requires.1 c.requires.3 8 refl refl (sym (c.kind.ensures W) ∙ c.if-kind-ne-INVARIANT.false) _ (omega arith) (omega arith) in
    let i = c.loop-p.invariant in (i.0, sweep-again i.1 (asked (λ T. T) 50 _ (no-entry) _ c.rule50.ensures c.emit_if-total.ensures) c.loop-p-test.true)

pub returns : goal.returns
returns c =
    let S = c.loop-p.invariant.0 in
    swept c.loop-p.invariant.1 c.loop-p-test.false
    (λ T. run-below (tree_of T.view) ident (rule50 (tree_of T.view)) _ _ _ refl (c.end-end.ensures T.view) ∙ sym (keep_one _ _ (has_one _ 8 (sym (c.kind.ensures T.view) ∙ c.if-kind-ne-INVARIANT.false))))
    (let u = S.under in omega arith)
