-- What is told of a lot (E3 of document 02): the words of its clauses and uses, and what is lent to tell them.
use Rattle.std.specs.Prelude.{ℕ, ◌+◌, ◌-◌, ◌<◌, ◌≤◌, ◌≡◌, Bool, List, [], ◌∷◌, eqb, length, get_or, Option, None, Some}
use Rattle.std.proofs.lemmas.List.Edits.{sets}
use Rattle.rules.specs.Sweep.{keep}
use Rattle.rules.specs.Tree.{Tree, entry as entries, burns}
use Rattle.rules.specs.Words.{Q_Asset}
use Rattle.rules.specs.Vocabulary.{Below}
use Rattle.nodes.specs.Shown.{View, In, tree_of}
use Rattle.nodes.specs.Marks.{Marks}
use Rattle.names.specs.Found.{Numbered}
use Rattle.places.specs.Places.{Places, first_of}
use Rattle.linear_occurrences.specs.declared.Occurrence.{Occurrence}
use Rattle.linear_occurrences.specs.Counted.{Counting, is_reader}
use Rattle.linear_parts.specs.Parts.{rows_of, first_row, last_row}

-- Words

-- the k₀ words before are followed by the words w: so many are counted then, and so the buffer stands
pub record Wrote (o₀ : List ℕ) (k₀ : ℕ) (w : List ℕ) (o : List ℕ) (k : ℕ) : Type 0 where
  pub count : k ≡ k₀ + length w
  pub words : o ≡ sets o₀ k₀ w

-- a function that is lent `out`, with `count` words before, adds those that F gives, whichever x the nodes are seen by: at most so many
abbrev pub AddsWords : {X : Type 0} → (X → List ℕ) → ℕ → List ℕ → List ℕ → ℕ → ℕ → Type 0
AddsWords {X} F most out out' count r = ((x : X) → Wrote out count (F x) out' r) × (r ≤ count + most)

-- What is lent

-- the number of `Q_Asset`, and for each name the first Burns clause of the entry e that has it
pub record Clauses (nodes : List ℕ) (e asset : ℕ) (clauses : List ℕ) : Type 0 where
  pub view : View nodes 0
  pub here : In nodes 0 e
  pub asset_number : Numbered view.image Q_Asset asset
  pub first_clauses : Places view.image (first_of (tree_of view) burns e) clauses

-- and a row for each name, from 1 on, or 0
pub record Marking (nodes : List ℕ) (e asset : ℕ) (clauses rows : List ℕ) : Type 0 where
  pub clausal : Clauses nodes e asset clauses
  pub row_of : List ℕ → ℕ
  pub noted : Places clausal.view.image row_of rows

-- the statements of an entry, the words that only read, and a row for each name
pub record Telling (nodes : List ℕ) (base : ℕ) (reader : List Bool) (rows : List ℕ) : Type 0 where
  pub counting : Counting nodes base reader
  pub row_of : List ℕ → ℕ
  pub noted : Places counting.view.image row_of rows

-- a row of the entry e, and for each name its first and its last row
pub record Rowed (nodes : List ℕ) (e row asset : ℕ) (reader : List Bool) (first last : List ℕ) : Type 0 where
  pub view : View nodes 0
  pub here : In nodes 0 e
  pub is_entry : Below (tree_of view) entries 0 e
  pub asset_number : Numbered view.image Q_Asset asset
  pub reader_marks : Marks view.image is_reader reader
  pub first_rows : Places view.image (first_row (tree_of view) (rows_of e (tree_of view))) first
  pub last_rows : Places view.image (last_row (tree_of view) (rows_of e (tree_of view))) last
  pub positive : 0 < row
  pub in_rows : row ≤ length (rows_of e (tree_of view))

-- the node that declares it
abbrev pub row_node : Tree → ℕ → ℕ → ℕ
row_node t e row = get_or (rows_of e t) (row - 1) 0

-- What is found

-- an occurrence that was found, as two words, if F notes the row for its word
abbrev pub found_words : Tree → (List ℕ → ℕ) → ℕ → Option Occurrence → List ℕ
found_words t F row None = []
found_words t F row (Some o) = keep (eqb (F (t.text o.ident)) row) (λ j. j ∷ o.consumer ∷ []) o.ident
