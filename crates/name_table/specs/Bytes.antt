-- How the names are judged in few steps: the text as a whole, and two names four bytes at a time. Nothing that a reader must believe; proofs/Words and proofs/Fours
-- say that it is what Text says.
use Rattle.std.specs.Prelude.{ℕ, ◌+◌, ◌*◌, ◌≤◌, ◌≡◌, List, Bool, length, get_or, drop}
use Rattle.image.specs.Pick.{every}
use Rattle.image.specs.Node.{full_word}
use Rattle.image.specs.Text.{word_at, less}

-- every byte of the text is of a class
unfoldable pub all_words : List ℕ → Bool
all_words t = every (word_at t) (length t)

-- four bytes from k on as one number, the first one highest
abbrev pub four_of : List ℕ → ℕ → ℕ
four_of s k = 256 * (256 * (256 * get_or s k 0 + get_or s (k + 1) 0) + get_or s (k + 2) 0) + get_or s (k + 3) 0

-- the first k bytes of two texts are the same, so what follows decides which is before the other; and where both have four more, these differ
pub record Alike (t u : List ℕ) (k : ℕ) : Type 0 where
  pub in_first : k ≤ length t
  pub in_second : k ≤ length u
  pub rests : less t u ≡ less (drop k t) (drop k u)
  pub differ : k + 4 ≤ length t → k + 4 ≤ length u → full_word t k ≡ full_word u k → ⊥
