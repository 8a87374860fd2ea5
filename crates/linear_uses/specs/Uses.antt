-- Burn marks and counted occurrences on the rows of an entry ("Linear" of document 01): where each one goes, and what is lent to put it there.
use Rattle.std.specs.Prelude.{ℕ, ◌+◌, ◌-◌, ◌<◌, ◌≤◌, Bool, false, List, [], ◌++◌, eqb, Option, None, Some}
use Rattle.image.specs.Maxima.{max_rows}
use Rattle.rules.specs.Sweep.{run, keep, has}
use Rattle.rules.specs.Tree.{Tree, param, burns, ident}
use Rattle.rules.specs.Words.{Q_Asset}
use Rattle.rules.specs.Vocabulary.{alone, below, some_below, named}
use Rattle.rules.specs.Linear.{is_burned, is_counted}
use Rattle.nodes.specs.Shown.{View, Worded, tree_of}
use Rattle.nodes.specs.Marks.{Marks}
use Rattle.names.specs.Found.{Numbered}
use Rattle.places.specs.Places.{Places}
use Rattle.linear_occurrences.specs.declared.Occurrence.{Occurrence}
use Rattle.linear_occurrences.specs.Counted.{Counting, for_ident}
use Rattle.linear_rows.specs.Tallies.{marks_at, count_at, Tallied}

-- each row has room for one more mark, for one more counted occurrence
pub record SpareMarks (s : List ℕ) : Type 0 where
  pub more_marks : (r : ℕ) → r < max_rows → marks_at s r < 65535

pub record SpareCounts (s : List ℕ) : Type 0 where
  pub more_counts : (r : ℕ) → r < max_rows → count_at s r < 65535

-- a table that notes for each name one of at most 511 rows, from 1 on, or 0
pub record OnRows (nodes : List ℕ) (base : ℕ) (rows : List ℕ) : Type 0 where
  pub view : View nodes base
  pub row_of : List ℕ → ℕ
  pub noted : Places view.image row_of rows
  pub few : (w : List ℕ) → row_of w ≤ max_rows

-- x, on row r, if the table F notes that row for the word w
abbrev pub on_row : (List ℕ → ℕ) → ℕ → List ℕ → ℕ → List ℕ
on_row F r w x = keep (eqb (F w) (r + 1)) alone x

-- a burned parameter at node y of the entry e, on the row that F notes for its name; those of the entry
abbrev pub burn_at : Tree → ℕ → (List ℕ → ℕ) → ℕ → ℕ → List ℕ
burn_at t e F r y = keep (has (t.kind y) param) (λ x. keep (is_burned t e x) (on_row F r (t.text (x + 1))) x) y

abbrev pub burns_on : Tree → ℕ → (List ℕ → ℕ) → ℕ → List ℕ
burns_on t e F r = below t param e (λ x. keep (is_burned t e x) (on_row F r (t.text (x + 1))) x)

-- a counted occurrence at node p; those from `base` up to `to`
abbrev pub use_at : Tree → ℕ → (List ℕ → ℕ) → ℕ → ℕ → List ℕ
use_at t e F r p = keep (has (t.kind p) ident) (λ i. keep (is_counted t e i) (on_row F r (t.text i)) i) p

abbrev pub uses_on : Tree → ℕ → (List ℕ → ℕ) → ℕ → ℕ → ℕ → List ℕ
uses_on t e F base to r = run (use_at t e F r) base (to - base)

-- the entry e: the names in its Burns clauses
abbrev pub burned_in : Tree → ℕ → List ℕ → Bool
burned_in t e w = some_below t burns e (named t w)

-- rows by name, the number of `Q_Asset`, and the names that the entry burns
pub record Burning (nodes : List ℕ) (e asset : ℕ) (burned : List Bool) (rows : List ℕ) : Type 0 where
  pub on_rows : OnRows nodes 0 rows
  pub asset_number : Numbered on_rows.view.image Q_Asset asset
  pub burned_marks : Marks on_rows.view.image (burned_in (tree_of on_rows.view) e) burned

-- the same, with no name marked
pub record Unburned (nodes : List ℕ) (asset : ℕ) (burned : List Bool) (rows : List ℕ) : Type 0 where
  pub on_rows : OnRows nodes 0 rows
  pub asset_number : Numbered on_rows.view.image Q_Asset asset
  pub clean : Marks on_rows.view.image (λ w. false) burned

-- the statements of an entry, the words that only read, and rows by name
pub record Using (nodes : List ℕ) (base : ℕ) (reader : List Bool) (rows : List ℕ) : Type 0 where
  pub counting : Counting nodes base reader
  pub row_of : List ℕ → ℕ
  pub noted : Places counting.view.image row_of rows
  pub few : (w : List ℕ) → row_of w ≤ max_rows

-- a function that is lent the rows puts x on the row that the table notes for a word, as a mark, while there is no occurrence; or the
-- Ident that was found, as a counted occurrence
abbrev pub Marks-one : {nodes : List ℕ} {base : ℕ} {rows : List ℕ} → OnRows nodes base rows → ℕ → List ℕ → List ℕ → Type 0
Marks-one T p tallies tallies' =
    (M : ℕ → List ℕ) (x : ℕ) → Tallied M (λ r. []) tallies
    → Tallied (λ r. M r ++ on_row T.row_of r ((tree_of T.view).text p) x) (λ r. []) tallies'

abbrev pub Uses-one : {nodes : List ℕ} {base : ℕ} {rows : List ℕ} → OnRows nodes base rows → Option Occurrence → List ℕ → List ℕ → Type 0
Uses-one T found tallies tallies' =
    (M U : ℕ → List ℕ) → Tallied M U tallies
    → Tallied M (λ r. U r ++ for_ident found (λ i. on_row T.row_of r ((tree_of T.view).text i) i)) tallies'

-- the Ident that was found, if one was, is a word of the part
abbrev pub Spoken : List ℕ → ℕ → Option Occurrence → Type 0
Spoken nodes base None = Unit {0}
Spoken nodes base (Some o) = Worded nodes base o.ident
