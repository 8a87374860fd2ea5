-- The table of tracked rows ("Linear" of document 01): what a row says, the rows of a contract up to the first entry that has a 60, and the plain cells that hold them.
use Rattle.std.specs.Prelude.{ℕ, ◌+◌, ◌*◌, ◌-◌, ◌<◌, ◌≤◌, ◌≡◌, Bool, List, [], ◌∷◌, ◌++◌, length, get_or, set, replicate}
use Rattle.image.specs.Maxima.{max_rows}
use Rattle.image.specs.Admit.{refusal}
use Rattle.rules.specs.Sweep.{run, keep, has}
use Rattle.rules.specs.Tree.{Tree, tree, entry as entries, «let», param_let}
use Rattle.rules.specs.Vocabulary.{Rec, rec, below}
use Rattle.rules.specs.Linear.{is_row, place_of, marks, uses, rule60}
use Rattle.nodes.specs.Shown.{number, tree_of}
use Rattle.linear_occurrences.specs.Counted.{Clear}
use Rattle.linear_parts.specs.Parts.{rows_of}
use Rattle.linear_tracked.specs.Rows.{Placed}
use Rattle.linear_rows.specs.Tallies.{marks_at, count_at}
use Rattle.linear.specs.Seen.{Clean}
use Rattle.linear_table.specs.declared.Row.{Row}
pub use Rattle.linear_table.specs.Blank.{blank_row}

abbrev pub nth_row : List Row → ℕ → Row
nth_row rows i = get_or rows i blank_row

-- a table in plain cells: four for each row, then the place of the first 60, then the number of the refusal
abbrev pub table_size : ℕ
table_size = 2046

abbrev pub alias_cell : ℕ
alias_cell = 2044

abbrev pub refused_cell : ℕ
refused_cell = 2045

-- row i of a table in plain cells, four each; the cells with a row stored
abbrev pub row_in : List ℕ → ℕ → Row
row_in s i = record { name = get_or s (4 * i) 0; place = get_or s (4 * i + 1) 0; marks = get_or s (4 * i + 2) 0; count = get_or s (4 * i + 3) 0 }

unfoldable pub stored : List ℕ → ℕ → Row → List ℕ
stored s i r = set (set (set (set s (4 * i) r.name) (4 * i + 1) r.place) (4 * i + 2) r.marks) (4 * i + 3) r.count

-- the cells hold these rows, and blank ones after them
pub record Holds (rows : List Row) (s : List ℕ) : Type 0 where
  pub size : length s ≡ table_size
  pub row : (i : ℕ) → i < max_rows → row_in s i ≡ nth_row rows i

-- what the row x of the entry e says: the number of its name, its place, how many marks and how many counted occurrences it has
abbrev pub row_for : List ℕ → ℕ → ℕ → Row
row_for s e x = record { name = number s (x + 1); place = place_of (tree s) x; marks = length (marks (tree s) e x); count = length (uses (tree s) e x) }

abbrev pub one_row : List ℕ → ℕ → ℕ → List Row
one_row s e x = row_for s e x ∷ []

-- the rows of an entry in order; of an item, if it is an Entry; its 60s
unfoldable pub entry_rows : List ℕ → ℕ → List Row
entry_rows s e = below (tree s) param_let e (λ x. keep (is_row (tree s) x) (one_row s e) x)

abbrev pub item_rows : List ℕ → ℕ → List Row
item_rows s p = keep (has ((tree s).kind p) entries) (entry_rows s) p

unfoldable pub entry60s : Tree → ℕ → List Rec
entry60s t e = below t «let» e (rule60 t e)

abbrev pub item60s : Tree → ℕ → List Rec
item60s t p = keep (has (t.kind p) entries) (entry60s t) p

-- the first of the 60s l is at node r, which is not the contract
pub record First60 (l : List Rec) (r : ℕ) : Type 0 where
  pub after : 0 < r
  pub rest : List Rec
  pub is : l ≡ rec 60 r 0 ∷ rest

-- the cells hold the rows of all items before `upto`, which have no 60: `upto` is the first item that has one, at r, or the end where r is 0
pub record Cut (s cells : List ℕ) (r : ℕ) : Type 0 where
  pub upto : ℕ
  pub low : 1 ≤ upto
  pub high : upto ≤ (tree s).end 0
  pub none : (i : ℕ) → 1 ≤ i → i < upto → item60s (tree s) i ≡ []
  pub rows : Holds (run (item_rows s) 1 (upto - 1)) cells
  pub few : length (run (item_rows s) 1 (upto - 1)) ≤ max_rows
  pub whole : r ≡ 0 → upto ≡ (tree s).end 0
  pub some : 0 < r → (upto < (tree s).end 0) × ((m : List Rec) × (item60s (tree s) upto ≡ rec 60 r 0 ∷ m))

-- the table of an image that is refused by number n: the last cell has it, and all others are 0
unfoldable pub refused_table : ℕ → List ℕ
refused_table n = set (replicate table_size 0) refused_cell n

-- the table of an image: two more cells have the place of the first 60, and the number of the refusal
pub record TableOf (s cells : List ℕ) : Type 0 where
  pub size : length cells ≡ table_size
  pub refused : get_or cells refused_cell 0 ≡ refusal s
  pub cut : refusal s ≡ 0 → Cut s cells (get_or cells alias_cell 0)
  pub no_rows : 0 < refusal s → cells ≡ refused_table (refusal s)

-- Within the crate: a row from what its entry's tables have of it, and an entry's rows so
abbrev pub row_by : List ℕ → ℕ → ℕ → ℕ → ℕ → Row
row_by s x p m c = record { name = number s (x + 1); place = p; marks = m; count = c }

abbrev pub rows_by : {nodes places : List ℕ} {n : ℕ} → Placed nodes n places → List ℕ → ℕ → List Row
rows_by {places = places} T tallies k = row_by T.view.image (get_or (rows_of T.entry (tree_of T.view)) k 0) (get_or places k 0) (marks_at tallies k) (count_at tallies k) ∷ []

-- an item that has no 60: its rows follow the `total` rows before, so that there are n, and all tables are clean again
pub record ItemStands (s : List ℕ) (p total : ℕ) (table table' : List ℕ) (burned : List Bool) (consumers places first last tallies : List ℕ) (n : ℕ) : Type 0 where
  pub none : item60s (tree s) p ≡ []
  pub more : (rows : List Row) → length rows ≡ total → Holds rows table → Holds (rows ++ item_rows s p) table'
  pub counted : n ≡ total + length (item_rows s p)
  pub room : 4 * n < (tree s).end p
  pub clean : Clean s burned places first last tallies
  pub clear : Clear ((tree s).end p) consumers

-- an item whose first 60 is at node r: the table stays
pub record ItemStops (s : List ℕ) (p : ℕ) (table table' : List ℕ) (r : ℕ) : Type 0 where
  pub first60 : First60 (item60s (tree s) p) r
  pub same : table' ≡ table
