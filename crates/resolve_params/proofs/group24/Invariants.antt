-- `group24` meets its contract: a walk from item to item, with nothing noted between them.
use Prim.Native.Nat.{◌*◌}
use Rattle.rules.specs.Tree.{entry}
use Rattle.rules.specs.Resolve.{entry_names}
use Rattle.nodes.specs.Shown.{tree_of}
use Rattle.nodes.specs.State.{State}
use Rattle.nodes.proofs.Iterated.{Over}
use Rattle.nodes.proofs.Steps.{Walk}
use Rattle.resolve_params.specs.Entries.{NoneNoted}
use Rattle.resolve_params.proofs.group24.Given as goal

abbrev pub invariant-loop-item : goal.invariant-loop-item
invariant-loop-item l =
    let s = l.initial.item-iterator in
    Over l.nodes 0 s.rest.end l.item-iterator × Walk (λ (T : State l.nodes 0 l.state). T.view) entry (λ T. entry_names (tree_of T.view)) 1 s.rest.end (2053 * 2048) l.initial.out l.count l.out l.total l.item-iterator.rest.at × ((T : State l.nodes 0 l.state) → NoneNoted T l.params l.lets)
