-- `group35` meets its contract: a walk from item to item, with no parameter marked between them.
use Prim.Native.Nat.{◌^◌}
use mathlib.Core.Bool.{false}
use Rattle.rules.specs.Tree.{entry}
use Rattle.rules.specs.Resolve.{entry_rules}
use Rattle.nodes.specs.Shown.{tree_of}
use Rattle.nodes.specs.Marks.{Marks}
use Rattle.nodes.proofs.Iterated.{Over}
use Rattle.nodes.proofs.Steps.{Walk}
use Rattle.resolve.specs.Tables.{ResolveTables}
use Rattle.resolve.proofs.group35.Given as goal

abbrev pub invariant-loop-item : goal.invariant-loop-item
invariant-loop-item l =
    let s = l.initial.item-iterator in Over l.nodes 0 s.rest.end l.item-iterator
    × Walk (λ (T : ResolveTables l.nodes l.tables l.initial.params). T.of_entry.view) entry (λ T. entry_rules (tree_of T.of_entry.view)) 1 s.rest.end (2 ^ 23) l.initial.out l.count l.out l.total l.item-iterator.rest.at
    × ((T : ResolveTables l.nodes l.tables l.initial.params) → Marks T.of_entry.view.image (λ w. false) l.params)
