-- What is lent on within one entry, with its rows noted: to the burn marks, to the counted occurrences; and what the tallies hold then.
use Prim.Native.Nat.{ℕ, ◌<◌, ◌≤◌}
use mathlib.Core.Bool.{Bool}
use mathlib.Core.List.{List}
use native.Mathlib.Omega.{arith}
use Rattle.rules.specs.Tree.{Tree}
use Rattle.nodes.specs.Shown.{Shown, tree_of}
use Rattle.nodes.specs.First.{Starts}
use Rattle.linear_occurrences.proofs.Entry.{counting-of}
use Rattle.linear_parts.specs.declared.Words.{Words}
use Rattle.linear_parts.specs.Parts.{rows_of, first_row, last_row}
use Rattle.linear_rows.specs.Tallies.{Tallied}
use Rattle.linear_rows.proofs.Tallied.{tallied-as}
use Rattle.linear_uses.specs.Uses.{Unburned, Using, burns_on, uses_on}
use Rattle.linear.specs.Seen.{RowsNoted, row_marks, row_uses}
use Rattle.linear.proofs.Select.{first-few, last-few, marks-on, uses-on}

module _ {nodes : List ℕ} {words : Words} {e : ℕ} {reader burned : List Bool} {first last tallies : List ℕ} (T : RowsNoted nodes words e reader burned first last tallies) where
  abbrev t : Tree
  t = tree_of T.known.view

  pub firsts-few : (w : List ℕ) → first_row t (rows_of e t) w ≤ 511
  firsts-few w = let a = first-few t e w in let b = T.few in omega arith

  pub lasts-few : (w : List ℕ) → last_row t (rows_of e t) w ≤ 511
  lasts-few w = let a = last-few t e w in let b = T.few in omega arith

  -- for the burn marks
  abbrev pub unburned-of : Unburned nodes words.asset burned first
  unburned-of = record {
    on_rows = record { view = T.known.view; row_of = first_row (tree_of T.known.view) (rows_of e (tree_of T.known.view)); noted = T.first_rows; few = firsts-few };
    asset_number = T.known.asset_number;
    clean = T.burned_none;
  }

  -- for the counted occurrences
  abbrev pub using-of : {part : List ℕ} {f : ℕ} → 0 < e → Starts T.known.view e f → Shown T.known.view.image part f ((tree_of T.known.view).end e) → Using part f reader last
  using-of z S H = record {
    counting = counting-of T.known.view T.reader_marks z T.is_entry S H;
    row_of = last_row (tree_of T.known.view) (rows_of e (tree_of T.known.view));
    noted = T.last_rows;
    few = lasts-few;
  }

  pub entry-tallied : {part s : List ℕ} {f : ℕ} (z : 0 < e) (S : Starts T.known.view e f) (H : Shown T.known.view.image part f ((tree_of T.known.view).end e))
      → Tallied (burns_on t e (first_row t (rows_of e t))) (uses_on t e (last_row t (rows_of e t)) f (t.end e)) s → Tallied (row_marks t e) (row_uses t e) s
  entry-tallied z S H = tallied-as (marks-on t e) (uses-on (counting-of T.known.view T.reader_marks z T.is_entry S H))
