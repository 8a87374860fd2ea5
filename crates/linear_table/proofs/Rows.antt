-- The rows of an entry: what its tables have of each, row by row, is what document 01 says of it.
use Prim.Native.Nat.{ℕ, zero, suc, ◌+◌, ◌<◌}
use mathlib.Core.Path.{◌≡◌, refl, ap, ◌∙◌, sym}
use mathlib.Core.List.{List, [], ◌∷◌}
use native.Mathlib.Omega.{arith}
use lib.ListN.{length, get_or, length-append}
use Rattle.rules.specs.Sweep.{run}
use Rattle.nodes.specs.Shown.{tree_of}
use Rattle.records.proofs.Sweep.{run-same}
use Rattle.linear_parts.specs.Parts.{rows_of}
use Rattle.linear_tracked.specs.Rows.{Placed}
use Rattle.linear_rows.specs.Tallies.{Tallied, marks_at, count_at}
use Rattle.linear.specs.Seen.{row_marks, row_uses}
use Rattle.linear.proofs.Judged.{rows_run, row-marks, row_count}
use Rattle.linear_table.specs.Table.{one_row, entry_rows, row_by, rows_by}

pub ones-long : {A : Type 0} (f : ℕ → A) (a n : ℕ) → length (run (λ i. f i ∷ []) a n) ≡ n
unfolding run
ones-long f a zero = refl
ones-long f a (suc n) = let z = length-append (run (λ i. f i ∷ []) a n) (f (a + n) ∷ []) in let i = ones-long f a n in omega arith

module _ {nodes places tallies : List ℕ} {n : ℕ} (T : Placed nodes n places) (C : Tallied (row_marks (tree_of T.view) T.entry) (row_uses (tree_of T.view) T.entry) tallies) where
  row_is : (k : ℕ) → k < n → rows_by T tallies k ≡ one_row T.view.image T.entry (get_or (rows_of T.entry (tree_of T.view)) k 0)
  row_is k l = rw (T.rows.place_of k l, row-marks T.entry T.rows C k l, row_count T.entry T.rows C k l)

  pub rows_are : run (rows_by T tallies) 0 n ≡ entry_rows T.view.image T.entry
  unfolding entry_rows
  rows_are =
      run-same (rows_by T tallies) (λ k. one_row T.view.image T.entry (get_or (rows_of T.entry (tree_of T.view)) k 0)) 0 n (λ k g h. row_is k (omega arith))
      ∙ ap (run (λ k. one_row T.view.image T.entry (get_or (rows_of T.entry (tree_of T.view)) k 0)) 0) T.rows.count ∙ rows_run (tree_of T.view) T.entry (one_row T.view.image T.entry)

  pub rows_long : n ≡ length (entry_rows T.view.image T.entry)
  rows_long = sym (ones-long (λ k. row_by T.view.image (get_or (rows_of T.entry (tree_of T.view)) k 0) (get_or places k 0) (marks_at tallies k) (count_at tallies k)) 0 n) ∙ ap length rows_are
