-- `group33` meets its contract: a walk from item to item; none where no item is a Genesis.
use Rattle.rules.specs.Tree.{genesis}
use Rattle.rules.specs.Resolve.{genesis_rules}
use Rattle.nodes.specs.Shown.{tree_of}
use Rattle.nodes.proofs.Iterated.{Over}
use Rattle.nodes.proofs.Steps.{Walk}
use Rattle.resolve.specs.Tables.{CallTables}
use Rattle.resolve.proofs.group33.Given as goal

abbrev pub invariant-loop-item : goal.invariant-loop-item
invariant-loop-item l = let s = l.initial.item-iterator in Over l.nodes 0 s.rest.end l.item-iterator × Walk (λ (T : CallTables l.nodes l.tables). T.view) genesis (λ T. genesis_rules (tree_of T.view)) 1 s.rest.end 4096 l.initial.out l.count l.out l.total l.item-iterator.rest.at
