-- A binary search among the names of an admitted image: names ascend, so those before a word come first.
use Prim.Native.Nat.{ℕ, ◌+◌, ◌<◌, ◌≤◌}
use mathlib.Core.Path.{◌≡◌, ◌∙◌, sym}
use mathlib.Core.Bool.{true, false, true≢false}
use mathlib.Core.List.{List}
use mathlib.Core.Logic.{⊎_elim}
use native.Mathlib.Omega.{arith}
use Rattle.image.specs.Text.{less}
use Rattle.image.specs.Admit.{name_count}
use Rattle.image.specs.declared.Image.{Image}
use Rattle.image.proofs.Decide.{eq-or-ne}
use Rattle.rules.proofs.Numbers.{trans}
use Rattle.nodes.specs.Shown.{Admitted, name_text}
use Rattle.nodes.proofs.Fall.{not_so}
use Rattle.names.specs.Found.{Parted}
use Rattle.names.proofs.Table.{ascends}

-- the invariant: the first `low` names are before w, those from `high` on are not
pub record Narrowed (s w : List ℕ) (low high : ℕ) : Type 0 where
  pub ordered : low ≤ high
  pub inside : high ≤ name_count s
  pub under : (k : ℕ) → k < low → less (name_text s (k + 1)) w ≡ true
  pub over : (k : ℕ) → high ≤ k → k < name_count s → less (name_text s (k + 1)) w ≡ false

pub narrow-starts : (s w : List ℕ) {m : ℕ} → m ≡ name_count s → Narrowed s w 0 m
narrow-starts s w e = record { ordered = omega arith; inside = omega arith; under = λ k l. absurd (omega arith); over = λ k l h. absurd (omega arith) }

pub narrow-done : {s w : List ℕ} {low high : ℕ} → Narrowed s w low high → high ≤ low → Parted s w low
narrow-done H l = let i = H.inside in let j = H.ordered in record { high = omega arith; under = H.under; over = λ k g h. H.over k (omega arith) h }

module _ {s : List ℕ} {head : Image} (H : Admitted s head) where
  module _ (w : List ℕ) where
    -- names before one that is before w are before w, so those after one that is not are not
    under_all : (k : ℕ) → k < name_count s → less (name_text s (k + 1)) w ≡ true → (j : ℕ) → j < k + 1 → less (name_text s (j + 1)) w ≡ true
    under_all k l h j g =
        ⊎_elim (λ (d : j ≡ k). rw d h) (λ (n : j ≡ k → ⊥). trans _ _ _ (ascends H (j + 1) (k + 1) (omega (arith, n)) (omega arith)) h) (eq-or-ne j k)

    over-all : (k : ℕ) → less (name_text s (k + 1)) w ≡ false → (j : ℕ) → k ≤ j → j < name_count s → less (name_text s (j + 1)) w ≡ false
    over-all k h j g i = not_so _ (λ d. true≢false (sym (under_all j i d k (omega arith)) ∙ h))

  module _ {w : List ℕ} {low high : ℕ} (N : Narrowed s w low high) (k : ℕ) (l : k < high) where
    pub narrow-up : less (name_text s (k + 1)) w ≡ true → Narrowed s w (k + 1) high
    narrow-up h = let i = N.inside in record { ordered = omega arith; inside = i; under = under_all w k (omega arith) h; over = N.over }

    pub narrow-down : low ≤ k → less (name_text s (k + 1)) w ≡ false → Narrowed s w low k
    narrow-down g h = let i = N.inside in record { ordered = g; inside = omega arith; under = N.under; over = over-all w k h }
