-- What the rows of an entry set in a table by name is taken off row by row.
use Prim.Native.Nat.{ℕ, zero, suc, ◌+◌, ◌-◌, ◌<◌}
use mathlib.Core.Path.{◌≡◌, refl, ap, ◌∙◌, sym}
use mathlib.Core.Bool.{Bool, true, false}
use mathlib.Core.List.{List}
use mathlib.Core.Logic.{◌⊎◌, inl, inr, ⊎_elim}
use native.Mathlib.Omega.{arith}
use lib.ListN.{length, get_or}
use Rattle.image.specs.Pick.{pick}
use Rattle.image.proofs.Decide.{eq-or-ne}
use Rattle.nodes.specs.Table.{folded}
use Rattle.places.specs.declared.Note.{Note}
use Rattle.places.specs.declared.Note.TheVariants.{Off}
use Rattle.places.specs.Places.{noting}
use Rattle.linear_parts.specs.Parts.{noted}
use Rattle.linear_parts.proofs.Noted.{Passes, noted-or}

still : (b : Bool) → ◌≡◌ {A = ℕ} (pick b 0 0) 0
still true = refl
still false = refl

-- n rows, of which those that pass the test are taken off
module _ (p : ℕ → Bool) where
  off_zero : (n : ℕ) → folded (λ i u. noting Off u (p i) i) 0 0 n ≡ 0
  unfolding folded
  off_zero zero = refl
  off_zero (suc n) = rw (off_zero n) (still (p (0 + n)))

  off-hit : (v n i : ℕ) → i < n → p i ≡ true → folded (λ j u. noting Off u (p j) j) v 0 n ≡ 0
  unfolding folded
  off-hit v zero i h e = absurd (omega arith)
  off-hit v (suc n) i h e =
      ⊎_elim (λ (d : i ≡ 0 + n). let z : p (0 + n) ≡ true = ap p (sym d) ∙ e in rw z) (λ (d : i ≡ 0 + n → ⊥). rw (off-hit v n i (omega (arith, d)) e) (still (p (0 + n)))) (eq-or-ne i (0 + n))

pub rows-off : (note : Note) (q : ℕ → Bool) (xs : List ℕ) (n : ℕ) → n ≡ length xs → folded (λ i u. noting Off u (q (get_or xs i 0)) i) (noted note q 0 0 xs) 0 (n - 0) ≡ 0
rows-off note q xs n e = let z : n - 0 ≡ length xs = omega arith in rw z (go (noted note q 0 0 xs) (noted-or note q 0 0 xs))
  where
    go : (v : ℕ) → (v ≡ 0) ⊎ ((r : ℕ) × Passes q xs r) → folded (λ i u. noting Off u (q (get_or xs i 0)) i) v 0 (length xs) ≡ 0
    go v (inl d) = rw d (off_zero (λ i. q (get_or xs i 0)) (length xs))
    go v (inr f) = off-hit (λ i. q (get_or xs i 0)) v (length xs) f.0 f.1.in_rows f.1.is
