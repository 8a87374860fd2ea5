-- A row stored in its four cells: it stands there, and all others stay; so the cells hold one row more.
use Prim.Native.Nat.{ℕ, ◌+◌, ◌*◌, ◌<◌, ◌≤◌}
use mathlib.Core.Path.{◌≡◌, ap, ◌∙◌, sym}
use mathlib.Core.List.{List, [], ◌∷◌, ◌++◌}
use mathlib.Core.Logic.{⊎_elim}
use native.Mathlib.Omega.{arith}
use lib.ListN.{length, get_or, set, length-set, length-append, replicate, length-replicate, get_or-replicate, get_or-append, get_or-eq_default}
use lib.Seq.{get_or-set_same, get_or-set_other, get_or-append_seam}
use Rattle.image.proofs.Decide.{eq-or-ne, lt-or-ge}
use Rattle.linear_table.specs.declared.Row.{Row}
use Rattle.linear_table.specs.Table.{blank_row, nth_row, row_in, stored, Holds}

row_as : (s s' : List ℕ) (i j : ℕ) → get_or s (4 * i) 0 ≡ get_or s' (4 * j) 0 → get_or s (4 * i + 1) 0 ≡ get_or s' (4 * j + 1) 0 → get_or s (4 * i + 2) 0 ≡ get_or s' (4 * j + 2) 0 → get_or s (4 * i + 3) 0 ≡ get_or s' (4 * j + 3) 0
    → row_in s i ≡ row_in s' j
row_as s s' i j a b c d = rw (a, b, c, d)

module _ (s : List ℕ) (i : ℕ) (r : Row) where
  stored-long : length (stored s i r) ≡ length s
  unfolding stored
  stored-long = simp length-set

  cell_other : (j : ℕ) → (j ≡ 4 * i → ⊥) → (j ≡ 4 * i + 1 → ⊥) → (j ≡ 4 * i + 2 → ⊥) → (j ≡ 4 * i + 3 → ⊥) → get_or (stored s i r) j 0 ≡ get_or s j 0
  unfolding stored
  cell_other j a b c d =
      let s₁ : List ℕ = set s (4 * i) r.name in
      let s₂ : List ℕ = set s₁ (4 * i + 1) r.place in
      let s₃ : List ℕ = set s₂ (4 * i + 2) r.marks in
      get_or-set_other s₃ (4 * i + 3) j r.count 0 d ∙ get_or-set_other s₂ (4 * i + 2) j r.marks 0 c ∙ get_or-set_other s₁ (4 * i + 1) j r.place 0 b ∙ get_or-set_other s (4 * i) j r.name 0 a

  row_other : (m : ℕ) → (m ≡ i → ⊥) → row_in (stored s i r) m ≡ row_in s m
  row_other m n =
      row_as (stored s i r) s m m (cell_other (4 * m) (λ e. n (omega arith)) (λ e. omega arith) (λ e. omega arith) (λ e. omega arith)) (cell_other (4 * m + 1) (λ e. omega arith) (λ e. n (omega arith)) (λ e. omega arith) (λ e. omega arith))
      (cell_other (4 * m + 2) (λ e. omega arith) (λ e. omega arith) (λ e. n (omega arith)) (λ e. omega arith)) (cell_other (4 * m + 3) (λ e. omega arith) (λ e. omega arith) (λ e. omega arith) (λ e. n (omega arith)))

  row_same : 4 * i + 4 ≤ length s → row_in (stored s i r) i ≡ r
  unfolding stored
  row_same h =
      let s₁ : List ℕ = set s (4 * i) r.name in
      let s₂ : List ℕ = set s₁ (4 * i + 1) r.place in
      let s₃ : List ℕ = set s₂ (4 * i + 2) r.marks in
      let l₁ : length s₁ ≡ length s = length-set s (4 * i) r.name in
      let l₂ : length s₂ ≡ length s = length-set s₁ (4 * i + 1) r.place ∙ l₁ in
      let l₃ : length s₃ ≡ length s = length-set s₂ (4 * i + 2) r.marks ∙ l₂ in
      let a : get_or (set s₃ (4 * i + 3) r.count) (4 * i) 0 ≡ r.name = get_or-set_other s₃ (4 * i + 3) (4 * i) r.count 0 (λ e. omega arith) ∙ get_or-set_other s₂ (4 * i + 2) (4 * i) r.marks 0 (λ e. omega arith) ∙ get_or-set_other s₁ (4 * i + 1) (4 * i) r.place 0 (λ e. omega arith) ∙ get_or-set_same s (4 * i) r.name 0 (omega arith) in
      let b : get_or (set s₃ (4 * i + 3) r.count) (4 * i + 1) 0 ≡ r.place = get_or-set_other s₃ (4 * i + 3) (4 * i + 1) r.count 0 (λ e. omega arith) ∙ get_or-set_other s₂ (4 * i + 2) (4 * i + 1) r.marks 0 (λ e. omega arith) ∙ get_or-set_same s₁ (4 * i + 1) r.place 0 (omega arith) in
      let c : get_or (set s₃ (4 * i + 3) r.count) (4 * i + 2) 0 ≡ r.marks = get_or-set_other s₃ (4 * i + 3) (4 * i + 2) r.count 0 (λ e. omega arith) ∙ get_or-set_same s₂ (4 * i + 2) r.marks 0 (omega arith) in
      let d : get_or (set s₃ (4 * i + 3) r.count) (4 * i + 3) 0 ≡ r.count = get_or-set_same s₃ (4 * i + 3) r.count 0 (omega arith) in
      rw (a, b, c, d)

pub holds-none : Holds [] (replicate 2046 0)
holds-none = record { size = length-replicate {A = ℕ} 2046 0; row = λ i l. row-blank (replicate 2046 0) i (λ j h. get_or-replicate 2046 j 0 0 h) l }
  where
    row-blank : (s : List ℕ) (i : ℕ) → ((j : ℕ) → j < 2046 → get_or s j 0 ≡ 0) → i < 511 → row_in s i ≡ blank_row
    row-blank s i z l = rw (z (4 * i) (omega arith), z (4 * i + 1) (omega arith), z (4 * i + 2) (omega arith), z (4 * i + 3) (omega arith))

pub holds_as : {rows rows' : List Row} {s : List ℕ} → rows ≡ rows' → Holds rows s → Holds rows' s
holds_as e H = rw e at H

pub holds-push : {rows : List Row} {s : List ℕ} (i : ℕ) (r : Row) → Holds rows s → length rows ≡ i → i < 511 → Holds (rows ++ r ∷ []) (stored s i r)
holds-push {rows} {s} i r H e h = record {
  size = stored-long s i r ∙ H.size;
  row = λ j l. ⊎_elim (λ (d : j ≡ i). here j d) (λ (n : j ≡ i → ⊥). row_other s i r j n ∙ H.row j l ∙ sym (others j n)) (eq-or-ne j i);
}
  where
    here : (j : ℕ) → j ≡ i → row_in (stored s i r) j ≡ nth_row (rows ++ r ∷ []) j
    here j d =
        let z = H.size in
        ap (row_in (stored s i r)) d ∙ row_same s i r (omega arith) ∙ sym (get_or-append_seam rows r [] blank_row) ∙ ap (nth_row (rows ++ r ∷ [])) (e ∙ sym d)

    others : (j : ℕ) → (j ≡ i → ⊥) → nth_row (rows ++ r ∷ []) j ≡ nth_row rows j
    others j n =
        ⊎_elim (λ (l : j < i). get_or-append rows (r ∷ []) blank_row j (omega arith))
        (λ (g : i ≤ j). let z = length-append rows (r ∷ []) in let k : length (rows ++ r ∷ []) ≤ j = omega arith in get_or-eq_default (rows ++ r ∷ []) blank_row k ∙ sym (get_or-eq_default rows blank_row (omega arith))) (lt-or-ge j i)

-- a cell past the rows can be set
pub holds-past : {rows : List Row} {s : List ℕ} (j v : ℕ) → 2044 ≤ j → Holds rows s → Holds rows (set s j v)
holds-past {rows} {s} j v h H = record {
  size = length-set s j v ∙ H.size;
  row = λ i l.
      row_as (set s j v) s i i (get_or-set_other s j (4 * i) v 0 (λ e. omega arith)) (get_or-set_other s j (4 * i + 1) v 0 (λ e. omega arith)) (get_or-set_other s j (4 * i + 2) v 0 (λ e. omega arith)) (get_or-set_other s j (4 * i + 3) v 0 (λ e. omega arith))
      ∙ H.row i l;
}
