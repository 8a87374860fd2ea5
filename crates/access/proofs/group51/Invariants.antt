-- `group51` meets its contract: a walk from item to item, with no name marked between them.
use mathlib.Core.Bool.{false}
use Rattle.rules.specs.Tree.{entry, statement as statements}
use Rattle.rules.specs.Vocabulary.{below}
use Rattle.rules.specs.Access.{statement_rules}
use Rattle.nodes.specs.Shown.{tree_of}
use Rattle.nodes.specs.Marks.{Marks}
use Rattle.nodes.proofs.Iterated.{Over}
use Rattle.nodes.proofs.Steps.{Walk}
use Rattle.access.specs.Seen.{AccessTables}
use Rattle.access.proofs.group51.Given as goal

abbrev pub invariant-loop-item : goal.invariant-loop-item
invariant-loop-item l = let s = l.initial.item-iterator in Over l.nodes 0 s.rest.end l.item-iterator × Walk (λ (T : AccessTables l.nodes l.tables l.initial.written). T.view) entry (λ T e. below (tree_of T.view) statements e (statement_rules (tree_of T.view) e)) 1 s.rest.end 2048 l.initial.out l.count l.out l.total l.item-iterator.rest.at × ((T : AccessTables l.nodes l.tables l.initial.written) → Marks T.view.image (λ w. false) l.written)
