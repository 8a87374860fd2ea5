-- `used_ok` meets its contract: every mark passed is set.
use Prim.Native.Nat.{◌≤◌}
use mathlib.Core.Path.{◌≡◌}
use mathlib.Core.Bool.{true}
use Rattle.image.specs.Pick.{every}
use Rattle.image.specs.Digits.{mark_at}
use Rattle.admission.proofs.used_ok.Given as goal

abbrev pub invariant-loop-k : goal.invariant-loop-k
invariant-loop-k l = (l.k ≤ l.m) × (every (mark_at l.marks) l.k ≡ true)
