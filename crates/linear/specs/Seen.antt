-- What the pass is lent from entry to entry, and what the rows of an entry hold ("Linear" of document 01).
use Rattle.std.specs.Prelude.{ℕ, ◌≤◌, ◌≡◌, Bool, false, List, [], ltb, length, get_or, replicate}
use Rattle.image.specs.Maxima.{max_rows}
use Rattle.image.specs.Pick.{pick}
use Rattle.rules.specs.Sweep.{keep, has}
use Rattle.rules.specs.Tree.{Tree, entry as entries}
use Rattle.rules.specs.Vocabulary.{Rec}
use Rattle.rules.specs.Linear.{marks, uses, linear_entry}
use Rattle.records.specs.Records.{Entered, on}
use Rattle.nodes.specs.Shown.{View, In, tree_of}
use Rattle.nodes.specs.Marks.{Marks}
use Rattle.names.specs.declared.Words.{Words as AllWords}
use Rattle.names.specs.Spelled.{WordsOf}
use Rattle.places.specs.Places.{Places}
use Rattle.linear_occurrences.specs.Counted.{is_reader, Clear}
use Rattle.linear_parts.specs.declared.Words.{Words}
use Rattle.linear_parts.specs.Parts.{KnownWords, rows_of, first_row, last_row}
use Rattle.linear.specs.declared.Tables.{Tables}
use Rattle.linear_rows.specs.Tallies.{Tallied, Blank}

-- what the pass is lent: the nodes of an admitted image, and the numbers of the words that the rules mention
pub record LookedWords (nodes : List ℕ) (words : AllWords) : Type 0 where
  pub view : View nodes 0
  pub root : In nodes 0 0
  pub words_are : WordsOf view.image words

-- the marks and the counted occurrences of row r of the entry e; none where it has no such row
abbrev pub row_marks : Tree → ℕ → ℕ → List ℕ
row_marks t e r = pick (ltb r (length (rows_of e t))) (marks t e (get_or (rows_of e t) r 0)) []

abbrev pub row_uses : Tree → ℕ → ℕ → List ℕ
row_uses t e r = pick (ltb r (length (rows_of e t))) (uses t e (get_or (rows_of e t) r 0)) []

-- the tables of an entry, as they are found and left: no name is burned, none has a row, no row has a mark or a use
pub record Clean (s : List ℕ) (burned : List Bool) (places first last tallies : List ℕ) : Type 0 where
  pub size : length places ≡ max_rows
  pub burned_none : Marks s (λ w. false) burned
  pub first_none : Places s (λ w. 0) first
  pub last_none : Places s (λ w. 0) last
  pub blank : Blank tallies

-- the nodes of an image with the words that the pass knows, and clean tables
pub record LinearTables (nodes : List ℕ) (words : Words) (reader burned : List Bool) (places first last tallies : List ℕ) : Type 0 where
  pub known : KnownWords nodes words
  pub root : In nodes 0 0
  pub reader_marks : Marks known.view.image is_reader reader
  pub clean : Clean known.view.image burned places first last tallies

-- an item: its records, if it is an Entry
abbrev pub item_linear : ℕ → Tree → List Rec
item_linear p t = keep (has (t.kind p) entries) (linear_entry t) p

-- what F says of the tree of the nodes that are lent
abbrev pub seen_linear : (Tree → List Rec) → (nodes : List ℕ) (words : Words) (reader burned : List Bool) (places first last tallies : List ℕ)
    → LinearTables nodes words reader burned places first last tallies → Entered
seen_linear F nodes words reader burned places first last tallies T = on F (tree_of T.known.view)

-- the tables are clean again after an item, and no node behind it has a consumer
abbrev pub CleansRows : ℕ → (nodes : List ℕ) (words : Words) (reader burned burned' : List Bool) (consumers consumers' places places' first first' last last' tallies tallies' : List ℕ) → Type 0
CleansRows p nodes words reader burned burned' consumers consumers' places places' first first' last last' tallies tallies' =
    (T : LinearTables nodes words reader burned places first last tallies)
    → Clean T.known.view.image burned' places' first' last' tallies' × Clear ((tree_of T.known.view).end p) consumers'

-- an entry whose rows are noted by name, with no mark or use on any of them yet
pub record RowsNoted (nodes : List ℕ) (words : Words) (e : ℕ) (reader burned : List Bool) (first last tallies : List ℕ) : Type 0 where
  pub known : KnownWords nodes words
  pub is_entry : (tree_of known.view).kind e ≡ 9
  pub reader_marks : Marks known.view.image is_reader reader
  pub burned_none : Marks known.view.image (λ w. false) burned
  pub few : length (rows_of e (tree_of known.view)) ≤ max_rows
  pub first_rows : Places known.view.image (first_row (tree_of known.view) (rows_of e (tree_of known.view))) first
  pub last_rows : Places known.view.image (last_row (tree_of known.view) (rows_of e (tree_of known.view))) last
  pub blank : Blank tallies

-- the marks and the uses of the entry stand on its rows; no name is burned any more, and no node behind the entry has a consumer
abbrev pub Tallies-entry : {nodes : List ℕ} {words : Words} {e : ℕ} {reader burned₀ : List Bool} {first last tallies₀ : List ℕ} → RowsNoted nodes words e reader burned₀ first last tallies₀ → List Bool → List ℕ → List ℕ → Type 0
Tallies-entry {e = e} T burned consumers tallies =
    Marks T.known.view.image (λ w. false) burned × Clear ((tree_of T.known.view).end e) consumers
    × Tallied (row_marks (tree_of T.known.view) e) (row_uses (tree_of T.known.view) e) tallies

-- the tables with nothing in them
abbrev pub fresh_tables : Tables
fresh_tables = record {
  burned = replicate 1024 false;
  consumers = replicate 2048 0;
  places = replicate 511 0;
  first = replicate 1024 0;
  last = replicate 1024 0;
  tallies = replicate 1533 0;
}
