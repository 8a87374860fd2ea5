-- `mint_calls` meets its contract: a walk from item to item.
use Rattle.rules.specs.Tree.{bodied}
use Rattle.rules.specs.Vocabulary.{calls}
use Rattle.rules.specs.Resolve.{rule22}
use Rattle.nodes.specs.Shown.{tree_of}
use Rattle.nodes.proofs.Iterated.{Over}
use Rattle.nodes.proofs.Steps.{Walk}
use Rattle.resolve_mints.specs.Minted.{Minting}
use Rattle.resolve_mints.proofs.mint_calls.Given as goal

abbrev pub invariant-loop-item : goal.invariant-loop-item
invariant-loop-item l = let s = l.initial.item-iterator in Over l.nodes 0 s.rest.end l.item-iterator × Walk (λ (T : Minting l.nodes 0 l.mint). T.view) bodied (λ T e. calls (tree_of T.view) e (rule22 (tree_of T.view))) 1 s.rest.end 2048 l.initial.out l.count l.out l.total l.item-iterator.rest.at
