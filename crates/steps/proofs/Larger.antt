-- `max`, by the test of `<`.
use Prim.Native.Nat.{ℕ, ◌<◌, ◌≤◌, max}
use mathlib.Core.Path.{◌≡◌}
use mathlib.Core.Logic.{⊎_elim}
use native.Mathlib.Omega.{arith}
use borrow.Author.Tests.{lt-ltb, le-ltb}
use Rattle.image.proofs.Decide.{lt-or-ge}
use Rattle.steps.specs.Steps.{larger}

pub max-larger : (a b : ℕ) → max a b ≡ larger a b
max-larger a b = ⊎_elim (λ (h : a < b). rw (lt-ltb a b h) (omega arith)) (λ (h : b ≤ a). rw (le-ltb a b h) (omega arith)) (lt-or-ge a b)
