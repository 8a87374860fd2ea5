-- `item32` meets its contract: an Entry, an Invariant or neither.
use mathlib.Core.Path.{◌∙◌, refl, sym}
use native.Mathlib.Omega.{arith}
use Rattle.records.proofs.Laws.{added-most, added-as, added-by, added-nothing}
use Rattle.nodes.specs.Shown.{tree_of}
use Rattle.nodes.proofs.Entries.{none-holds, node-held}
use Rattle.resolve_deployer.proofs.Deployer.{item-entry, item-invariant, item-other}
use Rattle.resolve_deployer.proofs.item32.Goals as goal

pub entry32-requires : goal.entry32-requires
entry32-requires c = let l = c.requires.3 in (c.requires.0, record { here = c.requires.1; low = c.requires.2; is = λ W. sym (c.kind.ensures W) ∙ c.in-9.is }, l)

pub returns-in-9 : goal.returns-in-9
returns-in-9 c = added-as (λ T. sym (item-entry (tree_of T.view) _ (sym (c.kind.ensures T.view) ∙ c.in-9.is))) c.entry32.ensures

pub returns-in-8 : goal.returns-in-8
returns-in-8 c =
    let P = c.requires in
    let k = c.kind.ensures in
    let m = c.in-8.is in
    added-most (omega arith)
    (added-by (λ T. let W = T.view in node-held W P.1 P.2 T (none-holds W P.1 P.2 8 refl refl (sym (k W) ∙ m)))
    (λ T. sym (item-invariant (tree_of T.view) _ (sym (k T.view) ∙ m))) c.idents32.ensures)

pub returns-in_default : goal.returns-in_default
returns-in_default c = added-nothing (λ T. let k = c.kind.ensures T.view in item-other (tree_of T.view) _ (λ e. omega arith) (λ e. omega arith))
