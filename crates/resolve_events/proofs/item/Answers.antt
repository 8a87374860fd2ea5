-- `item` meets its contract: the statements of an item of the kind, lent as their own part, stand in the entry that was found.
use native.Mathlib.Omega.{arith}
use mathlib.Core.Path.{◌≡◌, sym, ◌∙◌}
use Rattle.nodes.specs.Shown.{View, tree_of}
use Rattle.records.proofs.Laws.{added-nothing, added-by}
use Rattle.records.proofs.Sweep.{keep_one, keep-none, has_one, has-not}
use Rattle.nodes.proofs.Entries.{part_held}
use Rattle.items.proofs.Bodied.{entry-under, entry_found}
use Rattle.resolve_events.proofs.Lent.{lent, item-emits}
use Rattle.resolve_events.proofs.item.Goals as goal

pub returns-then-kind : goal.returns-then-kind
returns-then-kind c = added-nothing (λ T. keep-none _ _ (has-not _ _ (λ e. c.if-kind.true (c.kind.ensures T.emitting.view ∙ e))))

pub statements-requires : goal.statements-requires
statements-requires c =
    let is_one : (W : View c.args.nodes.now 0) → (tree_of W).kind c.args.item ≡ c.args.kind = λ W. sym (c.kind.ensures W) ∙ c.if-kind.false in
    let P = c.requires in
    let W = P.0.emitting.view in
    let l = P.2.2 in
    let u = entry-under c.args.kind c.args.item c.entry_of-entry.ensures l in
    (lent P.0 P.2 P.3 (is_one W) P.1 (c.first_statement-first.ensures W) (c.statements-body.ensures W), P.4, omega arith)

pub returns : goal.returns
returns c =
    let is_one : (W : View c.args.nodes.now 0) → (tree_of W).kind c.args.item ≡ c.args.kind = λ W. sym (c.kind.ensures W) ∙ c.if-kind.false in
    let P = c.requires in
    added-by
    (λ T.
    let W = T.emitting.view in
    let F = c.first_statement-first.ensures W in
    let S = c.statements-body.ensures W in
    part_held W P.2 P.3 (lent T P.2 P.3 (is_one W) P.1 F S) (entry_found W _ P.2 P.3 (is_one W) P.1 c.entry_of-entry.ensures) S F.after)
    (λ T. let W = T.emitting.view in item-emits W (c.first_statement-first.ensures W) ∙ sym (keep_one _ _ (has_one _ _ (is_one W))))
    c.statements.ensures

pub first_statement-first-requires : goal.first_statement-first-requires
first_statement-first-requires c = let P = c.requires in (P.0.emitting.view, P.2, P.3)

pub statements-body-requires : goal.statements-body-requires
statements-body-requires c = let P = c.requires in let W = P.0.emitting.view in record { view = W; here = P.2; first = c.first_statement-first.ensures W }
