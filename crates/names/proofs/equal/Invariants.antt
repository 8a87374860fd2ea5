-- `equal` meets its contract: the bytes before k are equal.
use Prim.Native.Nat.{ℕ, ◌<◌, ◌≤◌}
use mathlib.Core.Path.{◌≡◌}
use lib.ListN.{length, get_or}
use Rattle.names.proofs.equal.Given as goal

abbrev pub invariant-loop-k : goal.invariant-loop-k
invariant-loop-k l = (length l.v ≡ length l.w) × (l.k ≤ length l.v) × ((j : ℕ) → j < l.k → get_or l.v j 0 ≡ get_or l.w j 0)
