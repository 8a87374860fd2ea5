-- `below` meets its contract: up to k the two texts are equal, so their rests decide.
use Prim.Native.Nat.{◌≤◌}
use mathlib.Core.Path.{◌≡◌}
use lib.ListN.{length, drop}
use Rattle.image.specs.Text.{less}
use Rattle.image.proofs.below.Given as goal

abbrev pub invariant-loop-k : goal.invariant-loop-k
invariant-loop-k l = (l.k ≤ length l.u) × (less l.t l.u ≡ less (drop l.k l.t) (drop l.k l.u))
