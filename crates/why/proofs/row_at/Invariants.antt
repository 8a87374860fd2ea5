-- `row_at` meets its contract: none of the rows before the one at hand stands there.
use Prim.Native.Nat.{ℕ, ◌<◌, ◌≤◌}
use mathlib.Core.Path.{◌≡◌}
use lib.ListN.{get_or}
use Rattle.why.proofs.row_at.Given as goal

abbrev pub invariant-loop-row : goal.invariant-loop-row
invariant-loop-row l = (l.row ≤ l.n) × ((k : ℕ) → k < l.row → get_or l.places k 0 ≡ l.place → ⊥)
