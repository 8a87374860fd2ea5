-- Laws of tallied rows: the same marks and occurrences said otherwise, and the related word as occurrences come (E4 of document 02).
use Prim.Native.Nat.{ℕ, suc, ◌+◌}
use mathlib.Core.Path.{◌≡◌, refl, ap, ◌∙◌, sym}
use mathlib.Core.Bool.{Bool}
use mathlib.Core.List.{List, [], ◌∷◌, ◌++◌}
use native.Mathlib.Omega.{arith}
use borrow.Author.Tests.{ne_eqb}
use lib.ListN.{length}
use Rattle.image.specs.Pick.{pick}
use Rattle.rules.specs.Linear.{related_use}
use Rattle.linear_rows.specs.Tallies.{Tallied, related_turn}

pub tallied-as : {M N U W : ℕ → List ℕ} {s : List ℕ} → ((r : ℕ) → M r ≡ N r) → ((r : ℕ) → U r ≡ W r) → Tallied M U s → Tallied N W s
tallied-as {N = N} {U = U} m u T = record {
  size = T.size;
  marks = λ r l. T.marks r l ∙ ap length (m r);
  counts = λ r l. T.counts r l ∙ ap length (u r);
  relateds = λ r l. T.relateds r l ∙ ap (λ (x : List ℕ). related_use x (U r)) (m r) ∙ ap (related_use (N r)) (u r);
}

-- no occurrence, whatever marks there are
pub related-none : (m : List ℕ) → related_use m [] ≡ 0
related-none [] = refl
related-none (y ∷ m) = refl

-- the turn of the related one
pub turn-unmarked : {m : ℕ} → m ≡ 0 → related_turn m ≡ 2
turn-unmarked e = ap related_turn e

pub turn-marked : {m : ℕ} → (m ≡ 0 → ⊥) → related_turn m ≡ 1
turn-marked {m} n = ap (λ (b : Bool). pick b 2 1) (ne_eqb m 0 n)

-- one occurrence more: it is the related one where its turn has come, and no other is
pub related-is : (m l : List ℕ) (p : ℕ) → length l + 1 ≡ related_turn (length m) → related_use m (l ++ p ∷ []) ≡ p
related-is [] [] p e = absurd (omega arith)
related-is [] (x ∷ []) p e = refl
related-is [] (x ∷ y ∷ l) p e = absurd (omega arith)
related-is (z ∷ m) [] p e = refl
related-is (z ∷ m) (x ∷ l) p e = absurd (omega (arith, e ∙ turn-marked {m = suc (length m)} (λ d. omega arith)))

pub related-stays : (m l : List ℕ) (p : ℕ) → (length l + 1 ≡ related_turn (length m) → ⊥) → related_use m (l ++ p ∷ []) ≡ related_use m l
related-stays [] [] p n = refl
related-stays [] (x ∷ []) p n = absurd (n refl)
related-stays [] (x ∷ y ∷ l) p n = refl
related-stays (z ∷ m) [] p n = absurd (n (sym (turn-marked {m = suc (length m)} (λ d. omega arith))))
related-stays (z ∷ m) (x ∷ l) p n = refl
