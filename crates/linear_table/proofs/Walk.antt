-- The rows of an entry go to the table one after the other: those before k stand there.
use Prim.Native.Nat.{ℕ, ◌+◌, ◌*◌, ◌<◌, ◌≤◌}
use mathlib.Core.Path.{◌≡◌, ap, ◌∙◌, sym}
use mathlib.Core.List.{List, [], ◌∷◌, ◌++◌, append-nil, append_assoc}
use native.Mathlib.Omega.{arith}
use lib.ListN.{length, length-append, get_or}
use Rattle.rules.specs.Sweep.{run}
use Rattle.records.proofs.Sweep.{run_none, run-next}
use Rattle.nodes.specs.Shown.{tree_of}
use Rattle.linear_parts.specs.Parts.{rows_of}
use Rattle.linear_tracked.specs.Rows.{Placed}
use Rattle.linear_rows.specs.Tallies.{marks_at, count_at}
use Rattle.linear_rows.proofs.Judged.{Blanked, cell-ahead}
use Rattle.linear_table.specs.declared.Row.{Row}
use Rattle.linear_table.specs.Table.{row_by, rows_by, stored, Holds}
use Rattle.linear_table.proofs.Held.{holds_as, holds-push}
use Rattle.linear_table.proofs.Rows.{ones-long}

pub record Standing (nodes : List ℕ) (n : ℕ) (places tallies : List ℕ) (total : ℕ) (table₀ : List ℕ) (k : ℕ) (table : List ℕ) : Type 0 where
  pub high : k ≤ n
  pub rows : (T : Placed nodes n places) (rows : List Row) → length rows ≡ total → Holds rows table₀ → Holds (rows ++ run (rows_by T tallies) 0 k) table

module _ {nodes places tallies : List ℕ} {n total : ℕ} {table₀ : List ℕ} where
  pub standing-starts : Standing nodes n places tallies total table₀ 0 table₀
  standing-starts = record { high = omega arith; rows = λ T rows e H. holds_as (sym (ap (λ (l : List Row). rows ++ l) (run_none (rows_by T tallies) 0) ∙ append-nil rows)) H }

  -- one row more, whose tallies were ahead of those that are blank
  pub standing_on : {k : ℕ} {table table' tallies' : List ℕ} {r : Row} → Standing nodes n places tallies total table₀ k table → Blanked tallies k tallies' → k < n → total + n ≤ 511
      → ((T : Placed nodes n places) → r ≡ row_by T.view.image (get_or (rows_of T.entry (tree_of T.view)) k 0) (get_or places k 0) (marks_at tallies' k) (count_at tallies' k))
      → table' ≡ stored table (total + k) r → Standing nodes n places tallies total table₀ (k + 1) table'
  standing_on {k} {table} {table'} {tallies'} {r} S B l h e d = record {
    high = omega arith;
    rows = λ T rows f H.
        let z : 0 + k ≡ k = omega arith in
        let m = ones-long (λ i. row_by T.view.image (get_or (rows_of T.entry (tree_of T.view)) i 0) (get_or places i 0) (marks_at tallies i) (count_at tallies i)) 0 k in
        let g = length-append rows (run (rows_by T tallies) 0 k) in
        let q : r ∷ [] ≡ rows_by T tallies (0 + k) = ap (λ (r : Row). r ∷ []) (e T) ∙ here T ∙ ap (rows_by T tallies) (sym z) in
        rw d (holds_as (append_assoc rows (run (rows_by T tallies) 0 k) (r ∷ []) ∙ ap (λ (l : List Row). rows ++ (run (rows_by T tallies) 0 k ++ l)) q ∙ ap (λ (l : List Row). rows ++ l) (sym (run-next (rows_by T tallies) 0 k))) (holds-push (total + k) r (S.rows T rows f H) (omega arith) (omega arith)));
  }
    where
      here : (T : Placed nodes n places) → row_by T.view.image (get_or (rows_of T.entry (tree_of T.view)) k 0) (get_or places k 0) (marks_at tallies' k) (count_at tallies' k) ∷ [] ≡ rows_by T tallies k
      here T = rw (cell-ahead B (3 * k) (omega arith), cell-ahead B (3 * k + 1) (omega arith))

  pub standing-done : {k : ℕ} {table : List ℕ} → Standing nodes n places tallies total table₀ k table → n ≤ k
      → (T : Placed nodes n places) (rows : List Row) → length rows ≡ total → Holds rows table₀ → Holds (rows ++ run (rows_by T tallies) 0 n) table
  standing-done {k} S l T rows f H = let h = S.high in let e : k ≡ n = omega arith in rw e at (S.rows T rows f H)
