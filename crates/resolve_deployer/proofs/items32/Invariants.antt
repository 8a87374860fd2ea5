-- `items32` meets its contract: a walk from item to item.
use Prim.Native.Nat.{◌^◌}
use Rattle.nodes.specs.Shown.{tree_of}
use Rattle.nodes.proofs.Iterated.{Over}
use Rattle.nodes.proofs.Steps.{Walk}
use Rattle.rules.specs.Tree.{invariant_entry}
use Rattle.rules.specs.Resolve.{deployer_of}
use Rattle.resolve_deployer.specs.Deployed.{Deployed}
use Rattle.resolve_deployer.proofs.items32.Given as goal

abbrev pub invariant-loop-item : goal.invariant-loop-item
invariant-loop-item l = let s = l.initial.item-iterator in Over l.nodes 0 s.rest.end l.item-iterator × Walk (λ (T : Deployed l.nodes 0 l.deployer). T.view) invariant_entry (λ T. deployer_of (tree_of T.view)) 1 s.rest.end (2 ^ 23) l.initial.out l.count l.out l.total l.item-iterator.rest.at
