-- What the contract of `table_of` settles: two tables that it allows of one image are equal, cell by cell.
use Prim.Native.Nat.{ℕ, zero, suc, ◌+◌, ◌*◌, ◌-◌, ◌<◌, ◌≤◌}
use mathlib.Core.Path.{◌≡◌, refl, ap, sym, ◌∙◌}
use mathlib.Core.List.{List, [], ◌∷◌}
use native.Mathlib.Omega.{arith}
use lib.ListN.{length, get_or}
use lib.Seq.{ext_get_or}
use Rattle.image.specs.Maxima.{max_rows}
use Rattle.image.specs.Admit.{refusal}
use Rattle.rules.specs.Sweep.{run}
use Rattle.rules.specs.Tree.{tree}
use Rattle.rules.specs.Vocabulary.{Rec}
use Rattle.rules.specs.Answers.{by_first}
use Rattle.linear_table.specs.declared.Row.{Row}
use Rattle.linear_table.specs.Table.{nth_row, table_size, alias_cell, refused_cell, row_in, item_rows, item60s, Cut, TableOf}

-- 0 or more
by_zero : {A : Type 0} (n : ℕ) → (n ≡ 0 → A) → (0 < n → A) → A
by_zero zero z p = z refl
by_zero (suc n) z p = p (omega arith)

no-head : {r : Rec} {m : List Rec} → r ∷ m ≡ [] → ⊥
no-head {r} {m} e = let z : length (r ∷ m) ≡ 0 = ap length e in omega arith

abbrev placed : Rec → ℕ
placed r = r.place

abbrev first-place : List Rec → ℕ
first-place l = by_first 0 placed l

-- the first item that has a 60 is one
module _ {s a b : List ℕ} {x y : ℕ} (K : Cut s a x) (L : Cut s b y) where
  not-before : K.upto < L.upto → ⊥
  not-before l =
      by_zero x
      (λ z. let e : K.upto ≡ (tree s).end 0 = K.whole z in let h : L.upto ≤ (tree s).end 0 = L.high in omega arith)
      (λ p. no-head (sym (K.some p).1.1 ∙ L.none K.upto K.low l))

  no-sixty : K.upto ≡ L.upto → x ≡ 0 → 0 < y → ⊥
  no-sixty e z p =
      let h : K.upto ≡ (tree s).end 0 = K.whole z in
      let l : L.upto < (tree s).end 0 = (L.some p).0 in
      omega arith

module _ {s a b : List ℕ} {x y : ℕ} (K : Cut s a x) (L : Cut s b y) where
  same-upto : K.upto ≡ L.upto
  same-upto =
      let p : K.upto < L.upto → ⊥ = not-before K L in
      let q : L.upto < K.upto → ⊥ = not-before L K in
      omega arith

  same-sixty : x ≡ y
  same-sixty =
      let e : K.upto ≡ L.upto = same-upto in
      by_zero x
      (λ z. by_zero y (λ w. z ∙ sym w) (λ p. absurd (no-sixty K L e z p)))
      (λ p. by_zero y (λ w. absurd (no-sixty L K (sym e) w p))
      (λ q. ap first-place (sym (K.some p).1.1 ∙ ap (item60s (tree s)) e ∙ (L.some q).1.1)))

  same_row : (i : ℕ) → i < max_rows → row_in a i ≡ row_in b i
  same_row i h =
      K.rows.row i h ∙ ap (λ (n : ℕ). nth_row (run (item_rows s) 1 (n - 1)) i) same-upto
      ∙ sym (L.rows.row i h)

-- each cell of the rows is one of four of a row
data Quarter (j : ℕ) : Type 0 where
  name_of : (i : ℕ) → j ≡ 4 * i → Quarter j
  place_of : (i : ℕ) → j ≡ 4 * i + 1 → Quarter j
  marks_of : (i : ℕ) → j ≡ 4 * i + 2 → Quarter j
  count_of : (i : ℕ) → j ≡ 4 * i + 3 → Quarter j

next : {j : ℕ} → Quarter j → Quarter (suc j)
next (name_of i e) = place_of i (omega arith)
next (place_of i e) = marks_of i (omega arith)
next (marks_of i e) = count_of i (omega arith)
next (count_of i e) = name_of (i + 1) (omega arith)

quarter : (j : ℕ) → Quarter j
quarter zero = name_of 0 (omega arith)
quarter (suc j) = next (quarter j)

cells_same : (a b : List ℕ) → ((i : ℕ) → i < max_rows → row_in a i ≡ row_in b i) → (j : ℕ) → j < alias_cell → get_or a j 0 ≡ get_or b j 0
cells_same a b h j l = go (quarter j)
  where
    of : (k : ℕ) → j ≡ k → get_or a k 0 ≡ get_or b k 0 → get_or a j 0 ≡ get_or b j 0
    of k e p = ap (λ (n : ℕ). get_or a n 0) e ∙ p ∙ ap (λ (n : ℕ). get_or b n 0) (sym e)

    go : Quarter j → get_or a j 0 ≡ get_or b j 0
    go (name_of i e) = of (4 * i) e (ap (λ (r : Row). r.name) (h i (omega arith)))
    go (place_of i e) = of (4 * i + 1) e (ap (λ (r : Row). r.place) (h i (omega arith)))
    go (marks_of i e) = of (4 * i + 2) e (ap (λ (r : Row). r.marks) (h i (omega arith)))
    go (count_of i e) = of (4 * i + 3) e (ap (λ (r : Row). r.count) (h i (omega arith)))

-- the last two cells beside them
data Cell (j : ℕ) : Type 0 where
  in_rows : j < alias_cell → Cell j
  alias : j ≡ alias_cell → Cell j
  refusal_is : j ≡ refused_cell → Cell j

cell : (j : ℕ) → j < table_size → Cell j
cell j l = by_zero (2044 - j) (λ z. by_zero (j - 2044) (λ w. alias (omega arith)) (λ p. refusal_is (omega arith))) (λ p. in_rows (omega arith))

pub table-settles : {s a b : List ℕ} → TableOf s a → TableOf s b → a ≡ b
table-settles {s} {a} {b} A B =
    by_zero (refusal s)
    (λ z. ext_get_or 0 a b (A.size ∙ sym B.size) (λ j l. go z j (cell j (let e = A.size in omega arith))))
    (λ p. A.no_rows p ∙ sym (B.no_rows p))
  where
    go : refusal s ≡ 0 → (j : ℕ) → Cell j → get_or a j 0 ≡ get_or b j 0
    go z j (in_rows l) = cells_same a b (same_row (A.cut z) (B.cut z)) j l
    go z j (alias e) =
        ap (λ (n : ℕ). get_or a n 0) e ∙ same-sixty (A.cut z) (B.cut z) ∙ ap (λ (n : ℕ). get_or b n 0) (sym e)
    go z j (refusal_is e) =
        ap (λ (n : ℕ). get_or a n 0) e ∙ A.refused ∙ sym B.refused ∙ ap (λ (n : ℕ). get_or b n 0) (sym e)
