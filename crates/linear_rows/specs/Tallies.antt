-- The cells of the rows of an entry, three a row (its marks, its counted occurrences, its related word), and what a row is judged by
-- ("Linear" of document 01, E4 of document 02).
use Rattle.std.specs.Prelude.{ℕ, ◌+◌, ◌*◌, ◌<◌, ◌≡◌, List, [], ◌++◌, ltb, eqb, length, get_or}
use Rattle.image.specs.Maxima.{max_rows}
use Rattle.image.specs.Pick.{pick}
use Rattle.rules.specs.Vocabulary.{Rec, rec, only}
use Rattle.rules.specs.Linear.{related_use}

-- the cells of row r
abbrev pub marks_at : List ℕ → ℕ → ℕ
marks_at s r = get_or s (3 * r) 0

abbrev pub count_at : List ℕ → ℕ → ℕ
count_at s r = get_or s (3 * r + 1) 0

abbrev pub related_at : List ℕ → ℕ → ℕ
related_at s r = get_or s (3 * r + 2) 0

-- row r has the marks M r and the counted occurrences U r
pub record Tallied (M U : ℕ → List ℕ) (s : List ℕ) : Type 0 where
  pub size : length s ≡ 1533
  pub marks : (r : ℕ) → r < max_rows → marks_at s r ≡ length (M r)
  pub counts : (r : ℕ) → r < max_rows → count_at s r ≡ length (U r)
  pub relateds : (r : ℕ) → r < max_rows → related_at s r ≡ related_use (M r) (U r)

-- which counted occurrence of a row 62 is related to, by the number of its marks: the first when it has one, the second when it has none
abbrev pub related_turn : ℕ → ℕ
related_turn m = pick (eqb m 0) 2 1

-- no row has any
abbrev pub Blank : List ℕ → Type 0
Blank s = Tallied (λ r. []) (λ r. []) s

-- what is judged of a row by its cells: 61 when marks plus occurrences are 0, 62 when over 1
abbrev pub by_cells : ℕ → ℕ → ℕ → ℕ → List Rec
by_cells p m c s = only (eqb (m + c) 0) (rec 61 p 0) ++ only (ltb 1 (m + c)) (rec 62 p s)

abbrev pub judged_at : List ℕ → List ℕ → ℕ → List Rec
judged_at places s r = by_cells (get_or places r 0) (marks_at s r) (count_at s r) (related_at s r)

-- the first n rows are blank afterwards, and nothing else has changed
abbrev pub Blanks : ℕ → List ℕ → List ℕ → Type 0
Blanks n tallies tallies' = (length tallies' ≡ length tallies) × ((i : ℕ) → get_or tallies' i 0 ≡ pick (ltb i (3 * n)) 0 (get_or tallies i 0))
