-- `group50` meets its contract: a walk from item to item.
use Rattle.nodes.specs.Shown.{tree_of}
use Rattle.nodes.proofs.Iterated.{Over}
use Rattle.nodes.proofs.Steps.{Walk}
use Rattle.rules.specs.Tree.{ident, invariant}
use Rattle.rules.specs.Vocabulary.{below}
use Rattle.rules.specs.Access.{rule50}
use Rattle.nodes.specs.State.{State}
use Rattle.access.proofs.group50.Given as goal

abbrev pub invariant-loop-item : goal.invariant-loop-item
invariant-loop-item l = let s = l.initial.item-iterator in Over l.nodes 0 s.rest.end l.item-iterator × Walk (λ (T : State l.nodes 0 l.state). T.view) invariant (λ T v. below (tree_of T.view) ident v (rule50 (tree_of T.view))) 1 s.rest.end 2048 l.initial.out l.count l.out l.total l.item-iterator.rest.at
