-- The number of a word, found by its bytes: the names of an admitted image ascend strictly by bytes ("The image" of document 01), so one name at most has them.
use Rattle.std.specs.Prelude.{ℕ, ◌+◌, ◌<◌, ◌≤◌, ◌≡◌, Bool, true, false, List}
use Rattle.image.specs.Text.{less}
use Rattle.image.specs.Admit.{refusal, name_count}
use Rattle.rules.specs.Sweep.{either, same}
use Rattle.nodes.specs.Shown.{name_text}
use Rattle.nodes.specs.Marks.{Marks}

-- r names are before w, and the others are not
pub record Parted (s w : List ℕ) (r : ℕ) : Type 0 where
  pub high : r ≤ name_count s
  pub under : (k : ℕ) → k < r → less (name_text s (k + 1)) w ≡ true
  pub over : (k : ℕ) → r ≤ k → k < name_count s → less (name_text s (k + 1)) w ≡ false

-- r is the number of the name w; 0 where no name has these bytes
pub record Numbered (s w : List ℕ) (r : ℕ) : Type 0 where
  pub high : r ≤ name_count s
  pub is : 1 ≤ r → name_text s r ≡ w
  pub none : r ≡ 0 → (x : ℕ) → 1 ≤ x → x ≤ name_count s → name_text s x ≡ w → ⊥

-- a function that is lent a table marks the word of this number, whichever admitted image has the names
abbrev pub MarksNumber : ℕ → List Bool → List Bool → Type 0
MarksNumber x marks marks' = (s w : List ℕ) (P : List ℕ → Bool) → refusal s ≡ 0 → Numbered s w x → Marks s P marks → Marks s (λ v. either (P v) (same v w)) marks'
