-- `same_signature` meets its contract: parameter by parameter, both entries in step.
use Prim.Native.Nat.{◌+◌, ◌-◌, ◌≤◌}
use Rattle.nodes.proofs.Iterated.{Over}
use Rattle.resolve_overloads.specs.Entries.{Entries}
use Rattle.resolve_overloads.proofs.Turns.{PairAt}
use Rattle.resolve_overloads.proofs.same_signature.Given as goal

abbrev pub invariant-loop-p : goal.invariant-loop-p
invariant-loop-p l =
    Over l.nodes 0 l.initial.ours.rest.end l.ours × Over l.nodes 0 l.initial.theirs.rest.end l.theirs × (l.g + 2 ≤ l.ours.rest.at) × (l.e + 2 ≤ l.theirs.rest.at) × ((E : Entries l.nodes l.g l.e) → PairAt E l.ours.rest.at l.theirs.rest.at)

abbrev pub decreases-loop-p : goal.decreases-loop-p
decreases-loop-p l = l.ours.rest.end - l.ours.rest.at
