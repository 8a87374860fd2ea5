-- `item22` meets its contract: the statements of an Entry or a Genesis, lent as their own part, stand in the entry that was found.
use native.Mathlib.Omega.{arith}
use Prim.Native.Nat.{ℕ}
use mathlib.Core.Path.{◌≡◌, sym, ap, ◌∙◌}
use Rattle.rules.specs.Sweep.{has}
use Rattle.rules.specs.Tree.{bodied}
use Rattle.rules.specs.Resolve.{rule22}
use Rattle.records.proofs.Laws.{added-nothing, added-by}
use Rattle.records.proofs.Sweep.{keep_one, keep-none}
use Rattle.nodes.specs.Shown.{View, tree_of}
use Rattle.nodes.proofs.Entries.{part_held}
use Rattle.nodes.proofs.Flat.{flat-calls}
use Rattle.items.proofs.Bodied.{is-bodied, entry-under, entry_found}
use Rattle.resolve_mints.proofs.Laws.{lent-minting}
use Rattle.resolve_mints.proofs.item22.Goals as goal

pub returns-then-not-is_bodied : goal.returns-then-not-is_bodied
returns-then-not-is_bodied c =
    let told : (W : View c.args.nodes.now 0) → has ((tree_of W).kind c.args.item) bodied ≡ c.is_bodied.result = λ W. ap (λ (k : ℕ). has k bodied) (sym (c.kind-kind.ensures W)) ∙ sym c.is_bodied.ensures in
    added-nothing (λ T. keep-none _ _ (told T.view ∙ c.if-not-is_bodied.true))

pub calls22-requires : goal.calls22-requires
calls22-requires c =
    let P = c.requires in
    let l = P.1.2 in
    let u = entry-under c.kind-kind.result c.args.item c.entry_of-entry.ensures l in
    (lent-minting _ P.0 (c.statements-body.ensures P.0.view), P.3, omega arith)

pub returns : goal.returns
returns c =
    let told : (W : View c.args.nodes.now 0) → has ((tree_of W).kind c.args.item) bodied ≡ c.is_bodied.result = λ W. ap (λ (k : ℕ). has k bodied) (sym (c.kind-kind.ensures W)) ∙ sym c.is_bodied.ensures in
    let P = c.requires in
    let b = sym c.is_bodied.ensures ∙ c.if-not-is_bodied.false in
    added-by
    (λ T.
    let W = T.view in
    let S = c.statements-body.ensures W in
    part_held W P.1 P.2 (lent-minting c.args.item T S) (entry_found W _ P.1 P.2 (sym (c.kind-kind.ensures W)) b c.entry_of-entry.ensures) S (c.first_statement-first.ensures W).after)
    (λ T.
    let W = T.view in
    let k = told W ∙ c.if-not-is_bodied.false in
    flat-calls W P.1 P.2 (is-bodied _ k) (c.first_statement-first.ensures W) (rule22 (tree_of W)) ∙ sym (keep_one _ _ k))
    c.calls22.ensures
