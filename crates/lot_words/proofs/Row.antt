-- One row of an entry: what is lent on to tell its marks and its uses, and that these together are its reasons.
use Prim.Native.Nat.{ℕ, ◌-◌}
use mathlib.Core.Path.{◌≡◌, ap, ap₂, ◌∙◌}
use mathlib.Core.Bool.{Bool, true}
use mathlib.Core.List.Memᴰ
use mathlib.Core.List.{List, [], ◌++◌}
use native.Mathlib.Omega.{arith}
use borrow.Author.Tests.{lt-ltb}
use lib.Dec.{ltb}
use lib.ListN.{length}
use Rattle.image.specs.Pick.{pick}
use Rattle.image.specs.Admit.{refusal}
use Rattle.rules.specs.Tree.{Tree, burns}
use Rattle.rules.specs.Linear.{marks, uses}
use Rattle.nodes.specs.Shown.{View, Shown, tree_of}
use Rattle.nodes.specs.First.{Starts, Head}
use Rattle.places.specs.declared.Note.TheVariants.{First}
use Rattle.places.specs.Places.{Places, Noted, notes_below}
use Rattle.linear_occurrences.proofs.Entry.{counting-of}
use Rattle.linear_parts.specs.Parts.{rows_of, first_row, last_row}
use Rattle.linear_uses.specs.Uses.{burns_on, uses_on}
use Rattle.linear.proofs.Select.{marks-on, uses-on}
use Rattle.reasons.specs.Compute.{clause_words, use_words, each, reasons}
use Rattle.lot_words.specs.Told.{Marking, Telling, Rowed, row_node}

module _ {nodes : List ℕ} {e row asset : ℕ} {reader : List Bool} {first last : List ℕ} (T : Rowed nodes e row asset reader first last) where
  abbrev t : Tree
  t = tree_of T.view

  abbrev pub head_of : {start : ℕ} → Starts T.view e start → Head nodes 0 e start
  head_of S = record { view = T.view; here = T.here; positive = T.is_entry.after; is_entry = Memᴰ.eq_of_singleton T.is_entry.kind; first = S }

  -- for the marks: the first clause of each name is noted where none was
  abbrev pub marking-of : {clauses clauses' : List ℕ} → Noted (λ (W : View nodes 0). W.image) (λ W. notes_below First (tree_of W) burns e) clauses clauses'
      → ((s : List ℕ) → refusal s ≡ 0 → Places s (λ w. 0) clauses) → Marking nodes e asset clauses' first
  marking-of G f = record {
    clausal = record { view = T.view; here = T.here; asset_number = T.asset_number; first_clauses = G T.view (λ w. 0) (f T.view.image T.view.shown.admitted) };
    row_of = first_row (tree_of T.view) (rows_of e (tree_of T.view));
    noted = T.first_rows;
  }

  -- for the counted occurrences
  abbrev pub using-of : {part : List ℕ} {start : ℕ} → Starts T.view e start → Shown T.view.image part start ((tree_of T.view).end e) → Telling part start reader last
  using-of S H = record {
    counting = counting-of T.view T.reader_marks T.is_entry.after (Memᴰ.eq_of_singleton T.is_entry.kind) S H;
    row_of = last_row (tree_of T.view) (rows_of e (tree_of T.view));
    noted = T.last_rows;
  }

  here : ltb (row - 1) (length (rows_of e t)) ≡ true
  here = lt-ltb (row - 1) _ (let a = T.positive in let b = T.in_rows in omega arith)

  its-marks : burns_on t e (first_row t (rows_of e t)) (row - 1) ≡ marks t e (row_node t e row)
  its-marks = marks-on t e (row - 1) ∙ ap (λ (b : Bool). pick b (marks t e (row_node t e row)) []) here

  its-uses : {part : List ℕ} {start : ℕ} (S : Starts T.view e start) (H : Shown T.view.image part start (t.end e)) → uses_on t e (last_row t (rows_of e t)) start (t.end e) (row - 1) ≡ uses t e (row_node t e row)
  its-uses S H = uses-on (using-of S H).counting (row - 1) ∙ ap (λ (b : Bool). pick b (uses t e (row_node t e row)) []) here

  pub its-reasons : {part : List ℕ} {start : ℕ} (S : Starts T.view e start) (H : Shown T.view.image part start (t.end e))
      → each (clause_words t e) (burns_on t e (first_row t (rows_of e t)) (row - 1)) ++ each (use_words t e) (uses_on t e (last_row t (rows_of e t)) start (t.end e) (row - 1)) ≡ reasons t e (row_node t e row)
  unfolding reasons
  its-reasons S H = ap₂ ◌++◌ (ap (each (clause_words t e)) its-marks) (ap (each (use_words t e)) (its-uses S H))
