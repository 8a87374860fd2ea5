-- The refusals and their numbers: each number from 1 to 8 is that of its refusal.
use Prim.Native.Nat.{ℕ, ◌<◌, ◌≤◌}
use mathlib.Core.Path.{◌≡◌, refl}
use mathlib.Core.Bool.{Bool, true, false}
use native.Mathlib.Omega.{arith}
use borrow.Author.Tests.{eqb-true, eqb-false}
use lib.Dec.{eqb}
use Rattle.image.specs.Pick.{pick}
use Rattle.image.specs.Refusals.{number_of, refusal_of}
use Rattle.image.specs.declared.Refusal.{Refusal}
use Rattle.image.specs.declared.Refusal.TheVariants.{Length, Version, Counts, Layout, Names, Tree, Depth, Unused}

-- the refusal of a number is found among those that are left
next : (r k : ℕ) (x y : Refusal) → number_of x ≡ k → ((r ≡ k → ⊥) → number_of y ≡ r) → number_of (pick (eqb r k) x y) ≡ r
next r k x y e f = go (eqb r k) refl
  where
    go : (b : Bool) → eqb r k ≡ b → number_of (pick b x y) ≡ r
    go true t = let h = eqb-true r k t in omega arith
    go false t = f (eqb-false r k t)

pub numbered : (r : ℕ) → (r ≡ 0 → ⊥) → r ≤ 8 → number_of (refusal_of r) ≡ r
numbered r z h =
    next r 1 Length _ refl (λ a.
    next r 2 Version _ refl (λ b.
    next r 3 Counts _ refl (λ c.
    next r 4 Layout _ refl (λ d.
    next r 5 Names _ refl (λ e.
    next r 6 Tree _ refl (λ f.
    next r 7 Depth Unused refl (λ g. omega arith)))))))

pub known : (r : Refusal) → refusal_of (number_of r) ≡ r
known Length = refl
known Version = refl
known Counts = refl
known Layout = refl
known Names = refl
known Tree = refl
known Depth = refl
known Unused = refl

pub positive : (r : Refusal) → number_of r ≡ 0 → ⊥
positive Length e = absurd (omega arith)
positive Version e = absurd (omega arith)
positive Counts e = absurd (omega arith)
positive Layout e = absurd (omega arith)
positive Names e = absurd (omega arith)
positive Tree e = absurd (omega arith)
positive Depth e = absurd (omega arith)
positive Unused e = absurd (omega arith)

pub below-nine : (r : Refusal) → number_of r < 9
below-nine Length = omega arith
below-nine Version = omega arith
below-nine Counts = omega arith
below-nine Layout = omega arith
below-nine Names = omega arith
below-nine Tree = omega arith
below-nine Depth = omega arith
below-nine Unused = omega arith
