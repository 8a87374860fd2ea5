-- To be skipped by a reader: the number of a word, or none, as it is found by its bytes. Proved in proofs/Numbers.
use Rattle.std.specs.Prelude.{ℕ, ◌≤◌, ◌≡◌, List, ◌↔◌, leb}
use Rattle.image.specs.Pick.{pick}
use Rattle.image.specs.Admit.{refusal, name_count}
use Rattle.rules.specs.Sweep.{first, same}
use Rattle.rules.specs.Tree.{name_text}

abbrev pub SameNumbers : Type 0
SameNumbers =
    (s : List ℕ) → refusal s ≡ 0 → (x y : ℕ) → x ≤ name_count s → y ≤ name_count s
    → name_text s x ≡ name_text s y → x ≡ y

-- the number of the name w, 0 if the image has no such name
unfoldable pub number_of : List ℕ → List ℕ → ℕ
number_of s w =
    let x = first (λ x. same (name_text s x) w) 1 (name_count s) in
    pick (leb x (name_count s)) x 0

-- x is the number of the name w exactly when it has its bytes
abbrev pub Found : Type 0
Found =
    (s : List ℕ) → refusal s ≡ 0 → (w : List ℕ) (x : ℕ) → 1 ≤ x → x ≤ name_count s
    → (number_of s w ≡ x) ↔ (name_text s x ≡ w)

-- there is none exactly when no number has its bytes
abbrev pub NotFound : Type 0
NotFound =
    (s : List ℕ) (w : List ℕ)
    → (number_of s w ≡ 0) ↔ ((x : ℕ) → 1 ≤ x → x ≤ name_count s → name_text s x ≡ w → ⊥)
