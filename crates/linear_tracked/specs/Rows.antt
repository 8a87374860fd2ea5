-- The tracked rows of an entry ("Linear" of document 01) as the nodes that declare them: the table that holds them, and for each name the first and the last row that has it; and 60 at its parts.
use Rattle.std.specs.Prelude.{ℕ, ◌+◌, ◌*◌, ◌<◌, ◌≤◌, ◌≡◌, true, List, [], ◌++◌, length, get_or}
use Rattle.image.specs.Maxima.{max_rows}
use Rattle.rules.specs.Sweep.{keep, has}
use Rattle.rules.specs.Tree.{Tree, tree, entry as entries, «let»}
use Rattle.rules.specs.Vocabulary.{Rec, Below, named}
use Rattle.rules.specs.Linear.{is_row, place_of, rule60}
use Rattle.nodes.specs.Shown.{View, In, tree_of}
use Rattle.places.specs.declared.Note.{Note}
use Rattle.places.specs.Places.{Places}
use Rattle.linear_parts.specs.declared.Words.{Words}
use Rattle.linear_parts.specs.Parts.{KnownWords, row_at, rows_of, noted, first_row, last_row, PartAt}

-- 60 at a node, as the list of its record
abbrev pub at60 : ℕ → Tree → ℕ → List Rec
at60 p t e = keep (has (t.kind p) «let») (rule60 t e) p

-- the table holds the places of the n rows xs, and the tables by name their numbers
pub record Rows (s xs : List ℕ) (n : ℕ) (places first last : List ℕ) : Type 0 where
  pub size : length places ≡ max_rows
  pub few : n ≤ max_rows
  pub count : n ≡ length xs
  pub place_of : (r : ℕ) → r < n → get_or places r 0 ≡ place_of (tree s) (get_or xs r 0)
  pub first_rows : Places s (first_row (tree s) xs) first
  pub last_rows : Places s (last_row (tree s) xs) last

-- an entry of an image, before any row of it is noted
pub record Unrowed (nodes : List ℕ) (words : Words) (e : ℕ) (places first last : List ℕ) : Type 0 where
  pub known : KnownWords nodes words
  pub is_entry : Below (tree_of known.view) entries 0 e
  pub here : In nodes 0 e
  pub rows : Rows known.view.image [] 0 places first last

-- after part p there are r rows, for n before: one more, if it declares one. A row's node has at least four nodes.
abbrev pub TakesRow : (nodes : List ℕ) (words : Words) (p n : ℕ) (places places' first first' last last' : List ℕ) → ℕ → Type 0
TakesRow nodes words p n places places' first first' last last' r =
    (T : PartAt nodes words p first) → (4 * r + p ≤ 4 * n + (tree_of T.known.view).end p)
    × ((xs : List ℕ) → Rows T.known.view.image xs n places first last → Rows T.known.view.image (xs ++ row_at p (tree_of T.known.view)) r places' first' last')

-- after the whole entry there are r rows, all of its own
abbrev pub TakesRows : (nodes : List ℕ) (words : Words) (e : ℕ) (places places' first first' last last' : List ℕ) → ℕ → Type 0
TakesRows nodes words e places places' first first' last last' r =
    (T : Unrowed nodes words e places first last) → (4 * r + e < (tree_of T.known.view).end e)
    × Rows T.known.view.image (rows_of e (tree_of T.known.view)) r places' first' last'

-- the places of the n rows of an entry
pub record Placed (nodes : List ℕ) (n : ℕ) (places : List ℕ) : Type 0 where
  pub view : View nodes 0
  pub entry : ℕ
  pub here : In nodes 0 entry
  pub first : List ℕ
  pub last : List ℕ
  pub rows : Rows view.image (rows_of entry (tree_of view)) n places first last

-- a table by name of these rows notes nothing afterwards
abbrev pub Clears : List ℕ → ℕ → List ℕ → List ℕ → List ℕ → Type 0
Clears nodes n places rows rows' =
    (T : Placed nodes n places) (note : Note) → Places T.view.image (λ w. noted note (named (tree_of T.view) w) 0 0 (rows_of T.entry (tree_of T.view))) rows
    → Places T.view.image (λ w. 0) rows'

-- the place of a row, and the node that declares it
pub record PlaceOf (nodes : List ℕ) (place : ℕ) : Type 0 where
  pub view : View nodes 0
  pub row : ℕ
  pub here : In nodes 0 row
  pub row_is : is_row (tree_of view) row ≡ true
  pub is : place ≡ place_of (tree_of view) row
