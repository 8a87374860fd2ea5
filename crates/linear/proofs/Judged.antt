-- An entry's records: the 60s, then what the rows' cells say, row by row; and the rows blank again.
use Prim.Native.Nat.{ℕ, zero, suc, ◌+◌, ◌*◌, ◌-◌, ◌<◌, ◌≤◌}
use mathlib.Core.Path.{◌≡◌, refl, ap, ◌∙◌, sym}
use mathlib.Core.Bool.{Bool, true, false}
use mathlib.Core.List.{List, [], ◌∷◌, ◌++◌, append-nil}
use mathlib.Core.Logic.{◌⊎◌, inl, inr, ⊎_elim}
use native.Mathlib.Omega.{arith}
use borrow.Author.Tests.{lt-ltb, le-ltb, ltb-false}
use lib.Dec.{ltb}
use lib.ListN.{length, get_or, length-append, get_or-append}
use lib.Seq.{get_or-append_seam}
use Rattle.image.specs.Pick.{pick}
use Rattle.rules.specs.Sweep.{run, keep, has}
use Rattle.rules.specs.Tree.{Tree, tree, param_let}
use Rattle.rules.specs.Vocabulary.{alone, below}
use Rattle.rules.specs.Linear.{is_row, marks, uses, related_use, judged, row_rule}
use Rattle.records.proofs.Sweep.{run-next, run-same}
use Rattle.linear_parts.specs.Parts.{rows_of}
use Rattle.linear_tracked.specs.Rows.{Rows}
use Rattle.linear_rows.specs.Tallies.{Tallied, Blank, marks_at, count_at, related_at, judged_at}
use Rattle.linear.specs.Seen.{row_marks, row_uses}

-- a range in which each number gives nothing, or what f gives of it, is f of the numbers that give something
index-run : {A : Type 0} (F : ℕ → List A) (X : ℕ → List ℕ) (f : ℕ → List A) (a n : ℕ) → ((i : ℕ) → ((F i ≡ []) × (X i ≡ [])) ⊎ ((F i ≡ f i) × (X i ≡ i ∷ [])))
    → run F a n ≡ run (λ r. f (get_or (run X a n) r 0)) 0 (length (run X a n))
unfolding run
index-run F X f a zero h = refl
index-run {A} F X f a (suc n) h =
    ⊎_elim
    (λ (q : (F (a + n) ≡ []) × (X (a + n) ≡ [])).
    let d : run X a n ++ X (a + n) ≡ run X a n = ap (λ (l : List ℕ). run X a n ++ l) q.1 ∙ append-nil (run X a n) in
    ap (λ (l : List A). run F a n ++ l) q.0 ∙ append-nil (run F a n) ∙ index-run F X f a n h ∙ ap (λ (l : List ℕ). run (λ r. f (get_or l r 0)) 0 (length l)) (sym d))
    (λ (q : (F (a + n) ≡ f (a + n)) × (X (a + n) ≡ (a + n) ∷ [])).
    ap (λ (l : List A). run F a n ++ l) q.0 ∙ ap (λ (l : List A). l ++ f (a + n)) (index-run F X f a n h) ∙ more (run X a n) (a + n) ∙ ap (λ (l : List ℕ). run (λ r. f (get_or (run X a n ++ l) r 0)) 0 (length (run X a n ++ l))) (sym q.1))
    (h (a + n))
  where
    more : (xs : List ℕ) (y : ℕ) → run (λ r. f (get_or xs r 0)) 0 (length xs) ++ f y ≡ run (λ r. f (get_or (xs ++ y ∷ []) r 0)) 0 (length (xs ++ y ∷ []))
    more xs y =
        let z : 0 + length xs ≡ length xs = omega arith in
        ap (λ (l : List A). l ++ f y) (run-same _ _ 0 (length xs) (λ r g k. ap f (sym (get_or-append xs (y ∷ []) 0 r (omega arith)))))
        ∙ ap (λ (j : ℕ). run (λ r. f (get_or (xs ++ y ∷ []) r 0)) 0 (length xs) ++ f j) (sym (ap (λ (j : ℕ). get_or (xs ++ y ∷ []) j 0) z ∙ get_or-append_seam xs y [] 0))
        ∙ sym (run-next (λ r. f (get_or (xs ++ y ∷ []) r 0)) 0 (length xs))
        ∙ ap (run (λ r. f (get_or (xs ++ y ∷ []) r 0)) 0) (sym (length-append xs (y ∷ [])))

pub rows_run : {A : Type 0} (t : Tree) (e : ℕ) (f : ℕ → List A) → run (λ r. f (get_or (rows_of e t) r 0)) 0 (length (rows_of e t)) ≡ below t param_let e (λ x. keep (is_row t x) f x)
unfolding below keep
rows_run t e f = sym (index-run _ _ f (suc e) (t.end e - suc e) (λ i. go i (has (t.kind i) param_let) (is_row t i) refl))
  where
    go : (i : ℕ) (k q : Bool) → is_row t i ≡ q → ((keep k (λ x. keep (is_row t x) f x) i ≡ []) × (keep k (λ x. keep (is_row t x) alone x) i ≡ [])) ⊎ ((keep k (λ x. keep (is_row t x) f x) i ≡ f i) × (keep k (λ x. keep (is_row t x) alone x) i ≡ i ∷ []))
    go i true true d = inr (ap (λ (b : Bool). keep b f i) d, ap (λ (b : Bool). keep b alone i) d)
    go i true false d = inl (ap (λ (b : Bool). keep b f i) d, ap (λ (b : Bool). keep b alone i) d)
    go i false q d = inl (refl, refl)

module _ {s : List ℕ} (e : ℕ) {n : ℕ} {places first last tallies : List ℕ} (R : Rows s (rows_of e (tree s)) n places first last) (C : Tallied (row_marks (tree s) e) (row_uses (tree s) e) tallies) where
  -- what stands in the cells of row r
  module _ (r : ℕ) (l : r < n) where
    there : ltb r (length (rows_of e (tree s))) ≡ true
    there = lt-ltb r _ (let z = R.count in omega arith)

    few : r < 511
    few = let k = R.few in omega arith

    pub row-marks : marks_at tallies r ≡ length (marks (tree s) e (get_or (rows_of e (tree s)) r 0))
    row-marks = C.marks r few ∙ ap (λ (b : Bool). length (pick b (marks (tree s) e (get_or (rows_of e (tree s)) r 0)) [])) there

    pub row_count : count_at tallies r ≡ length (uses (tree s) e (get_or (rows_of e (tree s)) r 0))
    row_count = C.counts r few ∙ ap (λ (b : Bool). length (pick b (uses (tree s) e (get_or (rows_of e (tree s)) r 0)) [])) there

    row-related : related_at tallies r ≡ related_use (marks (tree s) e (get_or (rows_of e (tree s)) r 0)) (uses (tree s) e (get_or (rows_of e (tree s)) r 0))
    row-related = C.relateds r few ∙ ap (λ (b : Bool). related_use (pick b (marks (tree s) e (get_or (rows_of e (tree s)) r 0)) []) (pick b (uses (tree s) e (get_or (rows_of e (tree s)) r 0)) [])) there

    row-judged : judged_at places tallies r ≡ row_rule (tree s) e (get_or (rows_of e (tree s)) r 0)
    unfolding row_rule judged
    row-judged = rw (R.place_of r l, row-marks, row_count, row-related) refl

  -- 61 and 62, rows in order
  pub rows-judged : run (judged_at places tallies) 0 n ≡ below (tree s) param_let e (λ x. keep (is_row (tree s) x) (row_rule (tree s) e) x)
  rows-judged =
      run-same (judged_at places tallies) (λ r. row_rule (tree s) e (get_or (rows_of e (tree s)) r 0)) 0 n (λ r g h. row-judged r (omega arith))
      ∙ ap (run (λ r. row_rule (tree s) e (get_or (rows_of e (tree s)) r 0)) 0) R.count ∙ rows_run (tree s) e (row_rule (tree s) e)

  -- the rows past the last one hold nothing, so all are blank when those before are
  pub blanked : {tallies' : List ℕ} → length tallies' ≡ length tallies → ((i : ℕ) → get_or tallies' i 0 ≡ pick (ltb i (3 * n)) 0 (get_or tallies i 0)) → Blank tallies'
  blanked {tallies'} z f = record {
    size = z ∙ C.size;
    marks = λ r l. cell (3 * r) r (omega arith) (omega arith) (λ b. C.marks r l ∙ ap (λ (c : Bool). length (pick c (marks (tree s) e (get_or (rows_of e (tree s)) r 0)) [])) b);
    counts = λ r l. cell (3 * r + 1) r (omega arith) (omega arith) (λ b. C.counts r l ∙ ap (λ (c : Bool). length (pick c (uses (tree s) e (get_or (rows_of e (tree s)) r 0)) [])) b);
    relateds = λ r l. cell (3 * r + 2) r (omega arith) (omega arith) (λ b. C.relateds r l ∙ ap (λ (c : Bool). related_use (pick c (marks (tree s) e (get_or (rows_of e (tree s)) r 0)) []) (pick c (uses (tree s) e (get_or (rows_of e (tree s)) r 0)) [])) b);
  }
    where
      cell : (i r : ℕ) → 3 * r ≤ i → i < 3 * r + 3 → (ltb r (length (rows_of e (tree s))) ≡ false → get_or tallies i 0 ≡ 0) → get_or tallies' i 0 ≡ 0
      cell i r l h g = go (ltb i (3 * n)) refl
        where
          go : (b : Bool) → ltb i (3 * n) ≡ b → get_or tallies' i 0 ≡ 0
          go true q = f i ∙ ap (λ (b : Bool). pick b 0 (get_or tallies i 0)) q
          go false q = f i ∙ ap (λ (b : Bool). pick b 0 (get_or tallies i 0)) q ∙ g (le-ltb r _ (let k = ltb-false i (3 * n) q in let m = R.count in omega arith))
