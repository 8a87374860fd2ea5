-- `genesis` meets its contract: the Assigns, then the statements' Calls in one sweep.
use native.Mathlib.Omega.{arith}
use mathlib.Core.Path.{refl, sym, ◌∙◌}
use mathlib.Core.Logic.{inl}
use Rattle.records.proofs.Laws.{added-as, added-by, added-join, added-nothing}
use Rattle.records.proofs.Sweep.{has-not, has_one, keep-none, keep_one}
use Rattle.nodes.proofs.Flat.{flat-calls}
use Rattle.nodes.specs.Shown.{tree_of}
use Rattle.resolve_calls.proofs.Lent.{lent-known}
use mathlib.Core.Path.{◌≡◌}
use Rattle.nodes.specs.Shown.{View}
use Rattle.nodes.proofs.Entries.{Holds, none-holds, node-held, part_held}
use Rattle.resolve.proofs.Lent.{by-assigns}
use Rattle.rules.specs.Resolve.{genesis_rules, rule34}
use Rattle.resolve.proofs.genesis.Goals as goal

pub returns-then-kind-ne-GENESIS : goal.returns-then-kind-ne-GENESIS
returns-then-kind-ne-GENESIS c = added-nothing (λ T. keep-none _ _ (has-not _ 7 (λ e. c.if-kind-ne-GENESIS.true (c.kind.ensures T.view ∙ e))))

pub calls34-requires : goal.calls34-requires
calls34-requires c =
    let P = c.requires in
    let f = c.assigns-total.ensures.few in
    let l = P.3 in
    (lent-known c.args.item P.0.view (c.statements-body.ensures P.0.view) P.0.builtin_marks P.0.method_marks, omega arith, omega arith)

pub returns : goal.returns
unfolding genesis_rules
returns c =
    let outside : (W : View c.args.nodes.now 0) → Holds W c.requires.1 c.requires.2 0 = λ W. none-holds W c.requires.1 c.requires.2 7 refl refl (sym (c.kind.ensures W) ∙ c.if-kind-ne-GENESIS.false) in
    let P = c.requires in
    let k : (W : View c.args.nodes.now 0) → (tree_of W).kind c.args.item ≡ 7 = λ W. sym (c.kind.ensures W) ∙ c.if-kind-ne-GENESIS.false in
    let S = c.first_statement-first.ensures in
    added-as (λ T. sym (keep_one (genesis_rules (tree_of T.view)) _ (has_one _ 7 (k T.view))))
    (added-join (added-by (λ T. node-held T.view P.1 P.2 (by-assigns T) (outside T.view)) (λ T. refl) c.assigns-total.ensures)
    (added-by (λ T. let W = T.view in let Q = c.statements-body.ensures W in part_held W P.1 P.2 (lent-known c.args.item W Q T.builtin_marks T.method_marks) (outside W) Q (S W).after)
    (λ T. let W = T.view in flat-calls W P.1 P.2 (inl (k W)) (S W) (rule34 (tree_of W)))
    c.calls34.ensures))

pub assigns-total-requires : goal.assigns-total-requires
assigns-total-requires c = let P = c.requires in let l = P.3 in (by-assigns P.0, P.1, P.2, omega arith)

pub first_statement-first-requires : goal.first_statement-first-requires
first_statement-first-requires c = let P = c.requires in (P.0.view, P.1, P.2)

pub statements-body-requires : goal.statements-body-requires
statements-body-requires c = let P = c.requires in let W = P.0.view in record { view = W; here = P.1; first = c.first_statement-first.ensures W }
