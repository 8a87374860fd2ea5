-- What the steps find is the first record of the linear pass, and they leave the rows blank; on a refused image there are none.
use Prim.Native.Nat.{ℕ, zero, suc, ◌+◌, ◌-◌, ◌<◌, ◌≤◌}
use mathlib.Core.Path.{◌≡◌, refl, ap, ◌∙◌, sym, subst}
use mathlib.Core.Bool.{Bool, true, false}
use mathlib.Core.List.{List, [], ◌∷◌, ◌++◌}
use mathlib.Core.Logic.{⊎_elim}
use native.Mathlib.Omega.{arith}
use borrow.Author.Tests.{eq-eqb, ne_eqb, lt-ltb, le-leb, lt-leb}
use lib.Dec.{eqb, ltb}
use lib.ListN.{length, get_or, set, length-set, replicate, length-replicate, get_or-replicate, get_or-append, get_or-eq_default}
use lib.Seq.{get_or-set_same, get_or-set_other, get_or-append_seam, ext_get_or}
use Rattle.image.specs.Pick.{pick}
use Rattle.image.specs.Admit.{refusal}
use Rattle.image.proofs.Decide.{eq-or-ne, lt-or-ge}
use Rattle.image.proofs.Verdict.{admission-no}
use Rattle.rules.specs.Sweep.{run, keep, has}
use Rattle.rules.specs.Tree.{Tree, tree, entry as entries, param_let}
use Rattle.rules.specs.Vocabulary.{Rec, rec, only, below}
use Rattle.rules.specs.Linear.{is_row, place_of, marks, uses, related_use, judged, row_rule, linear_entry, linear}
use Rattle.rules.specs.Answers as rules
use Rattle.rules.specs.Passes as passes
use Rattle.rules.proofs.Answers.{refusal-most}
use Rattle.rules.proofs.Passes.{judges-linear}
use Rattle.records.proofs.Sweep.{run-parts, run-one, run-below}
use Rattle.image.specs.declared.Refusal.{Refusal}
use Rattle.image.specs.Refusals.{refusal_of}
use Rattle.std.specs.Prelude.{Err}
use Rattle.typeck.specs.Face.{Verdict, Judged, verdict_of}
use Rattle.passes.proofs.Laws.{judged-refused, judged-numbers}
use Rattle.linear_table.specs.declared.Row.{Row}
use Rattle.linear_table.specs.Table.{blank_row, nth_row, row_in, row_for, one_row, entry_rows, item_rows, entry60s, Cut, TableOf}
use Rattle.linear_steps.specs.declared.Found.{Found}
use Rattle.linear_steps.specs.declared.State.{State}
use Rattle.linear_steps.specs.declared.Turn.{Turn}
use Rattle.linear_steps.specs.Step.{found_at, judge_row, row_before, step_of, state_with, first_found, start_of}
use Rattle.linear_lent.specs.Lent.{JudgedIn, drove, ran, answered}

-- The rows, from the last to the first

split-last : (l : List Row) (m : ℕ) → length l ≡ suc m → (a : List Row) × (x : Row) × (l ≡ a ++ x ∷ []) × (length a ≡ m)
split-last [] m e = absurd (omega arith)
split-last (x ∷ []) m e = ([], x, refl, omega arith)
split-last (x ∷ (y ∷ l)) zero e = absurd (omega arith)
split-last (x ∷ (y ∷ l)) (suc m) e = let q = split-last (y ∷ l) m (omega arith) in let h = q.3 in (x ∷ q.0, q.1, ap (λ (t : List Row). x ∷ t) q.2, omega arith)

-- what is found at the rows of a list, in front of f
pub judge_rows : List Row → Found → Found
judge_rows [] f = f
judge_rows (r ∷ l) f = judge_row r (judge_rows l f)

rows_join : (a b : List Row) (f : Found) → judge_rows (a ++ b) f ≡ judge_rows a (judge_rows b f)
unfolding judge_rows
rows_join [] b f = refl
rows_join (r ∷ a) b f = ap (judge_row r) (rows_join a b f)

-- what is found by a list of records, in front of f
pub found : List Rec → Found → Found
found [] f = f
found (r ∷ l) f = found_at r.code r.place

found-join : (a b : List Rec) (f : Found) → found (a ++ b) f ≡ found a (found b f)
unfolding found
found-join [] b f = refl
found-join (r ∷ a) b f = refl

-- rows and records that find the same at each number of a range find the same in all of it
found-run : (G : ℕ → List Row) (F : ℕ → List Rec) (a n : ℕ) → ((i : ℕ) → a ≤ i → i < a + n → (f : Found) → judge_rows (G i) f ≡ found (F i) f) → (f : Found) → judge_rows (run G a n) f ≡ found (run F a n) f
unfolding run judge_rows found
found-run G F a zero h f = refl
found-run G F a (suc n) h f =
    rows_join (run G a n) (G (a + n)) f ∙ ap (judge_rows (run G a n)) (h (a + n) (omega arith) (omega arith) f)
    ∙ found-run G F a n (λ i l k. h i l (omega arith)) (found (F (a + n)) f) ∙ sym (found-join (run F a n) (F (a + n)) f)

module _ (cells : List ℕ) where
  -- the rows of the cells below m, from the last to the first
  pub judge_down : ℕ → Found → Found
  judge_down zero f = f
  judge_down (suc m) f = judge_down m (judge_row (row_in cells m) f)

  before-suc : (m : ℕ) → row_before (suc m) ≡ m
  before-suc m = let e : suc m - 1 ≡ m = omega arith in simp (ne_eqb (suc m) 0 (λ z. omega arith), e)

  -- the state in which m rows are left, in the first or in the second half
  abbrev at_row : ℕ → ℕ
  at_row zero = 510
  at_row (suc m) = m

  before-row : (m : ℕ) → row_before m ≡ at_row m
  before-row zero = refl
  before-row (suc m) = before-suc m

  step-stores : (m : ℕ) (f : Found) (r : Row) → step_of cells (record { at = m; left = 511 + suc m; found = f }) r ≡ record { row = row_in cells m; state = record { at = at_row m; left = 511 + m; found = f } }
  unfolding step_of
  step-stores m f r = let e : 511 + suc m - 1 ≡ 511 + m = omega arith in simp (le-leb 512 (511 + suc m) (omega arith), before-row m, e)

  step-judges : (m : ℕ) (f : Found) (r : Row) → m < 511 → step_of cells (record { at = m; left = suc m; found = f }) r ≡ record { row = blank_row; state = record { at = at_row m; left = m; found = judge_row r f } }
  unfolding step_of
  step-judges m f r h = let e : suc m - 1 ≡ m = omega arith in simp (lt-leb 512 (suc m) (omega arith), before-row m, e)

  -- the second half: the rows from m on are blank, those before stand
  judges : (m : ℕ) (f : Found) (zs : List Row) → m ≤ 511 → length zs ≡ 511 → ((i : ℕ) → i < m → nth_row zs i ≡ row_in cells i) → ((i : ℕ) → m ≤ i → i < 511 → nth_row zs i ≡ blank_row)
      → drove cells m (record { at = at_row m; left = m; found = f }) zs ≡ (record { at = 510; left = 0; found = judge_down m f }, replicate 511 blank_row)
  unfolding drove judge_down
  judges zero f zs h l a b = ap (λ (r : List Row). (record { at = 510; left = 0; found = f }, r)) (ext_get_or blank_row zs (replicate 511 blank_row) (l ∙ sym (length-replicate {A = Row} 511 blank_row)) (λ i k. b i (omega arith) (omega arith) ∙ sym (get_or-replicate {A = Row} 511 i blank_row blank_row (omega arith))))
  judges (suc m) f zs h l a b =
      let e = ap (λ (r : Row). step_of cells (record { at = m; left = suc m; found = f }) r) (a m (omega arith)) ∙ step-judges m f (row_in cells m) (omega arith) in
      ap (λ (t : Turn). drove cells m t.state (set zs m t.row)) e
      ∙ judges m (judge_row (row_in cells m) f) (set zs m blank_row) (omega arith) (length-set zs m blank_row ∙ l) (λ i k. get_or-set_other zs m i blank_row blank_row (λ z. omega arith) ∙ a i (omega arith))
      (λ i k j. ⊎_elim (λ (d : i ≡ m). ap (nth_row (set zs m blank_row)) d ∙ get_or-set_same zs m blank_row blank_row (omega arith)) (λ (n : i ≡ m → ⊥). get_or-set_other zs m i blank_row blank_row n ∙ b i (omega arith) j) (eq-or-ne i m))

  -- the first half: the rows from m on stand
  stores : (m : ℕ) (f : Found) (zs : List Row) → m ≤ 511 → length zs ≡ 511 → ((i : ℕ) → m ≤ i → i < 511 → nth_row zs i ≡ row_in cells i)
      → drove cells (511 + m) (record { at = at_row m; left = 511 + m; found = f }) zs ≡ (record { at = 510; left = 0; found = judge_down 511 f }, replicate 511 blank_row)
  unfolding drove
  stores zero f zs h l a = judges 511 f zs (omega arith) l (λ i k. a i (omega arith) k) (λ i k j. absurd (omega arith))
  stores (suc m) f zs h l a =
      let n : 511 + suc m ≡ suc (511 + m) = omega arith in
      ap (λ (k : ℕ). drove cells k (record { at = m; left = 511 + suc m; found = f }) zs) n
      ∙ ap (λ (t : Turn). drove cells (511 + m) t.state (set zs m t.row)) (step-stores m f (nth_row zs m))
      ∙ stores m f (set zs m (row_in cells m)) (omega arith) (length-set zs m (row_in cells m) ∙ l)
      (λ i k j. ⊎_elim (λ (d : i ≡ m). ap (nth_row (set zs m (row_in cells m))) d ∙ get_or-set_same zs m (row_in cells m) blank_row (omega arith) ∙ ap (row_in cells) (sym d)) (λ (n : i ≡ m → ⊥). get_or-set_other zs m i (row_in cells m) blank_row n ∙ a i (omega arith) j) (eq-or-ne i m))

  -- the cells hold a list of rows: what is found at those is found in the cells
  down_holds : (m : ℕ) (rows : List Row) (f : Found) → length rows ≤ m → ((i : ℕ) → i < m → row_in cells i ≡ nth_row rows i) → judge_down m f ≡ judge_rows rows f
  unfolding judge_down judge_rows
  down_holds zero [] f l h = refl
  down_holds zero (r ∷ rows) f l h = absurd (omega arith)
  down_holds (suc m) rows f l h =
      ⊎_elim
      (λ (k : m < length rows).
      let q = split-last rows m (omega arith) in
      let n = q.3 in
      let x : row_in cells m ≡ q.1 = h m (omega arith) ∙ ap (λ (t : List Row). nth_row t m) q.2 ∙ ap (nth_row (q.0 ++ q.1 ∷ [])) (sym n) ∙ get_or-append_seam q.0 q.1 [] blank_row in
      ap (λ (r : Row). judge_down m (judge_row r f)) x
      ∙ down_holds m q.0 (judge_row q.1 f) (omega arith) (λ i j. h i (omega arith) ∙ ap (λ (t : List Row). nth_row t i) q.2 ∙ get_or-append q.0 (q.1 ∷ []) blank_row i (omega arith))
      ∙ sym (ap (λ (t : List Row). judge_rows t f) q.2 ∙ rows_join q.0 (q.1 ∷ []) f))
      (λ (k : length rows ≤ m). ap (λ (r : Row). judge_down m (judge_row r f)) (h m (omega arith) ∙ get_or-eq_default rows blank_row k) ∙ down_holds m rows f k (λ i j. h i (omega arith)))
      (lt-or-ge m (length rows))

-- Rows and records

-- the records that n marks and occurrences at p give
by-sum : (n p q : ℕ) (f : Found) → pick (eqb n 0) (found_at 61 p) (pick (ltb 1 n) (found_at 62 p) f) ≡ found (only (eqb n 0) (rec 61 p 0) ++ only (ltb 1 n) (rec 62 p q)) f
unfolding only found
by-sum n p q f = go (eqb n 0) (ltb 1 n)
  where
    go : (b c : Bool) → pick b (found_at 61 p) (pick c (found_at 62 p) f) ≡ found (only b (rec 61 p 0) ++ only c (rec 62 p q)) f
    go true c = refl
    go false true = refl
    go false false = refl

place-some : (t : Tree) (x : ℕ) → 0 < x → place_of t x ≡ 0 → ⊥
unfolding place_of
place-some t x h = go (eqb (t.kind x) 25)
  where
    go : (b : Bool) → pick b x (x + 1) ≡ 0 → ⊥
    go true e = omega arith
    go false e = omega arith

module _ (s : List ℕ) where
  row-found : (e x : ℕ) → 0 < x → (f : Found) → judge_row (row_for s e x) f ≡ found (row_rule (tree s) e x) f
  unfolding row_rule judged
  row-found e x h f =
      let n = length (marks (tree s) e x) + length (uses (tree s) e x) in
      let p = place_of (tree s) x in
      ap (λ (b : Bool). pick b f (pick (eqb n 0) (found_at 61 p) (pick (ltb 1 n) (found_at 62 p) f))) (ne_eqb p 0 (place-some (tree s) x h)) ∙ by-sum n p (related_use (marks (tree s) e x) (uses (tree s) e x)) f

  node-found : (e i : ℕ) → 0 < i → (f : Found) (k b : Bool) → is_row (tree s) i ≡ b → judge_rows (keep k (λ x. keep (is_row (tree s) x) (one_row s e) x) i) f ≡ found (keep k (λ x. keep (is_row (tree s) x) (row_rule (tree s) e) x) i) f
  unfolding keep judge_rows found
  node-found e i h f true true d = ap (λ (b : Bool). judge_rows (keep b (one_row s e) i) f) d ∙ row-found e i h f ∙ sym (ap (λ (b : Bool). found (keep b (row_rule (tree s) e) i) f) d)
  node-found e i h f true false d = ap (λ (b : Bool). judge_rows (keep b (one_row s e) i) f) d ∙ sym (ap (λ (b : Bool). found (keep b (row_rule (tree s) e) i) f) d)
  node-found e i h f false b d = refl

  entry_found : (e : ℕ) (f : Found) → judge_rows (entry_rows s e) f ≡ found (below (tree s) param_let e (λ x. keep (is_row (tree s) x) (row_rule (tree s) e) x)) f
  unfolding entry_rows below
  entry_found e f =
      found-run (λ i. keep (has ((tree s).kind i) param_let) (λ x. keep (is_row (tree s) x) (one_row s e) x) i) (λ i. keep (has ((tree s).kind i) param_let) (λ x. keep (is_row (tree s) x) (row_rule (tree s) e) x) i) (suc e) ((tree s).end e - suc e)
      (λ i l k g. node-found e i (omega arith) g (has ((tree s).kind i) param_let) (is_row (tree s) i) refl) f

  -- an item that has no 60: its rows find what its records do
  item-found : (p : ℕ) (f : Found) (b : Bool) → keep b (entry60s (tree s)) p ≡ [] → judge_rows (keep b (entry_rows s) p) f ≡ found (keep b (linear_entry (tree s)) p) f
  unfolding keep judge_rows found linear_entry entry60s
  item-found p f true z = entry_found p f ∙ ap (λ (l : List Rec). found (l ++ below (tree s) param_let p (λ x. keep (is_row (tree s) x) (row_rule (tree s) p) x)) f) (sym z)
  item-found p f false z = refl

  -- an item that has one, whatever follows
  stop-found : (p r : ℕ) (m l : List Rec) (f : Found) (b : Bool) → keep b (entry60s (tree s)) p ≡ rec 60 r 0 ∷ m → found (keep b (linear_entry (tree s)) p ++ l) f ≡ found_at 60 r
  unfolding keep found linear_entry entry60s
  stop-found p r m l f true z = ap (λ (k : List Rec). found ((k ++ below (tree s) param_let p (λ x. keep (is_row (tree s) x) (row_rule (tree s) p) x)) ++ l) f) z
  stop-found p r m l f false z = let e : ◌≡◌ {A = ℕ} 0 1 = ap length z ∙ cc in absurd (omega arith)

  abbrev item : ℕ → List Rec
  item i = keep (has ((tree s).kind i) entries) (linear_entry (tree s)) i

  -- behind the cut: nothing, or the first 60
  rest-found : {cells : List ℕ} {r : ℕ} (K : Cut s cells r) → found (run item K.upto ((tree s).end 0 - K.upto)) (found_at 0 0) ≡ first_found r
  unfolding run found
  rest-found {cells} {r} K = ⊎_elim none some (eq-or-ne r 0)
    where
      none : r ≡ 0 → found (run item K.upto ((tree s).end 0 - K.upto)) (found_at 0 0) ≡ first_found r
      none z =
          let u = K.whole z in
          let d : (tree s).end 0 - K.upto ≡ 0 = omega arith in
          ap (λ (n : ℕ). found (run item K.upto n) (found_at 0 0)) d ∙ sym (ap first_found z)

      some : (r ≡ 0 → ⊥) → found (run item K.upto ((tree s).end 0 - K.upto)) (found_at 0 0) ≡ first_found r
      some n =
          let h : 0 < r = omega arith in
          let q = K.some h in
          let l = q.0 in
          ap (λ (t : List Rec). found t (found_at 0 0)) (run-parts item K.upto (K.upto + 1) ((tree s).end 0) (omega arith) (omega arith) ∙ ap (λ (t : List Rec). t ++ run item (K.upto + 1) ((tree s).end 0 - (K.upto + 1))) (run-one item K.upto))
          ∙ stop-found K.upto r q.1.0 (run item (K.upto + 1) ((tree s).end 0 - (K.upto + 1))) (found_at 0 0) (has ((tree s).kind K.upto) entries) q.1.1 ∙ sym (simp (ne_eqb r 0 n))

  pub linear-found : {cells : List ℕ} {r : ℕ} → Cut s cells r → judge_down cells 511 (first_found r) ≡ found (linear (tree s)) (found_at 0 0)
  unfolding linear
  linear-found {cells} {r} K =
      let g = first_found r in
      let R = run (item_rows s) 1 (K.upto - 1) in
      down_holds cells 511 R g K.few K.rows.row
      ∙ found-run (item_rows s) item 1 (K.upto - 1) (λ i l k f. item-found i f (has ((tree s).kind i) entries) (K.none i l (omega arith))) g
      ∙ ap (found (run item 1 (K.upto - 1))) (sym (rest-found K)) ∙ sym (found-join (run item 1 (K.upto - 1)) (run item K.upto ((tree s).end 0 - K.upto)) (found_at 0 0))
      ∙ ap (λ (l : List Rec). found l (found_at 0 0)) (sym (run-parts item 1 K.upto ((tree s).end 0) K.low K.high) ∙ run-below (tree s) entries (linear_entry (tree s)) 0 1 ((tree s).end 0) refl refl)

-- What the steps give

module _ {s cells : List ℕ} (T : TableOf s cells) (ys : List Row) where
  ran-refused : (refusal s ≡ 0 → ⊥) → ran cells ys ≡ (state_with 0 (found_at (refusal s) 0), ys)
  unfolding start_of drove
  ran-refused n =
      let e : start_of cells ≡ state_with 0 (found_at (refusal s) 0) = ap (λ (b : Bool). pick b (state_with 1022 (first_found (get_or cells 2044 0))) (state_with 0 (found_at (get_or cells 2045 0) 0))) (ne_eqb (get_or cells 2045 0) 0 (λ z. n (sym T.refused ∙ z))) ∙ ap (λ (k : ℕ). state_with 0 (found_at k 0)) T.refused in
      ap (λ (c : State). drove cells c.left c ys) e

  ran-admitted : refusal s ≡ 0 → length ys ≡ 511 → ran cells ys ≡ (record { at = 510; left = 0; found = judge_down cells 511 (first_found (get_or cells 2044 0)) }, replicate 511 blank_row)
  unfolding start_of
  ran-admitted z l =
      let e : start_of cells ≡ state_with 1022 (first_found (get_or cells 2044 0)) = ap (λ (b : Bool). pick b (state_with 1022 (first_found (get_or cells 2044 0))) (state_with 0 (found_at (get_or cells 2045 0) 0))) (eq-eqb (get_or cells 2045 0) 0 (T.refused ∙ z)) in
      ap (λ (c : State). drove cells c.left c ys) e ∙ stores cells 511 (first_found (get_or cells 2044 0)) ys (omega arith) l (λ i k j. absurd (omega arith))

-- the numbers of what is found are those of the first record
numbers_of : (s : List ℕ) (l : List Rec) → verdict_of (answered s (found l (found_at 0 0))) ≡ verdict_of (rules.verdict s l)
unfolding found
numbers_of s [] = refl
numbers_of s (r ∷ l) = refl

-- What the public form promises

pub found-admitted : {s cells : List ℕ} (ys : List Row) {c : State} → TableOf s cells → length ys ≡ 511 → c ≡ (ran cells ys).0 → 9 ≤ c.found.number → refusal s ≡ 0
found-admitted {s} ys {c} T l e h = ⊎_elim (λ (z : refusal s ≡ 0). z) refused (eq-or-ne (refusal s) 0)
  where
    refused : (refusal s ≡ 0 → ⊥) → refusal s ≡ 0
    refused n =
        let d : c.found.number ≡ refusal s = ap (λ (d : State). d.found.number) (e ∙ ap (λ (p : State × List Row). p.0) (ran-refused T ys n)) in
        let m = refusal-most s in
        absurd (omega arith)

abbrev no_image : Refusal → Verdict
no_image r = Err r

pub judged-in : {s cells : List ℕ} (ys : List Row) {zs : List Row} {c : State} {v : Verdict} → TableOf s cells → length ys ≡ 511 → c ≡ (ran cells ys).0 → zs ≡ (ran cells ys).1 → v ≡ verdict_of (answered s c.found) → JudgedIn s ys v zs
judged-in {s} {cells} ys {zs} {c} {v} T l e d f = ⊎_elim admitted refused (eq-or-ne (refusal s) 0)
  where
    admitted : refusal s ≡ 0 → JudgedIn s ys v zs
    admitted z =
        let a = ran-admitted T ys z l in
        record {
          verdict = judged-numbers passes.linearity s (omega arith) z (judges-linear s z)
              (f ∙ ap (λ (d : State). verdict_of (answered s d.found)) (e ∙ ap (λ (p : State × List Row). p.0) a) ∙ ap (λ (g : Found). verdict_of (answered s g)) (linear-found s (T.cut z)) ∙ numbers_of s (linear (tree s)));
          rows_are = d ∙ ap (λ (p : State × List Row). p.1) a ∙ sym (ap (λ (b : Bool). pick b (replicate 511 blank_row) ys) (eq-eqb (refusal s) 0 z));
        }

    refused : (refusal s ≡ 0 → ⊥) → JudgedIn s ys v zs
    refused n =
        let a = ran-refused T ys n in
        let m = refusal-most s in
        let g : v ≡ no_image (refusal_of (refusal s)) = f ∙ ap (λ (d : State). verdict_of (answered s d.found)) (e ∙ ap (λ (p : State × List Row). p.0) a) ∙ simp (ne_eqb (refusal s) 0 n, lt-ltb (refusal s) 9 (omega arith)) in
        record {
          verdict = subst (Judged linear s) (sym g) (judged-refused linear s (refusal_of (refusal s)) (sym (admission-no s (refusal s) n)));
          rows_are = d ∙ ap (λ (p : State × List Row). p.1) a ∙ sym (ap (λ (b : Bool). pick b (replicate 511 blank_row) ys) (ne_eqb (refusal s) 0 n));
        }
