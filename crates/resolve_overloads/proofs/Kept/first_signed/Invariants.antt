-- `first_signed` meets its contract: a walk from the last entry of a slot to the first.
use Prim.Native.Nat.{◌<◌}
use Rattle.resolve_overloads.specs.Keys.{Sought, slot}
use Rattle.resolve_overloads.proofs.Chain.{Seeking}
use Rattle.resolve_overloads.proofs.Kept.first_signed.Given as goal

abbrev pub invariant-loop-g : goal.invariant-loop-g
invariant-loop-g l = (l.g < l.e) × ((S : Sought l.nodes l.e l.key l.self) → Seeking S.it.view.image l.e (slot l.key) l.g)

abbrev pub decreases-loop-g : goal.decreases-loop-g
decreases-loop-g l = l.g
