-- What is judged of a row by its cells, and cells that are made blank row by row.
use Prim.Native.Nat.{ℕ, ◌+◌, ◌*◌, ◌<◌, ◌≤◌}
use mathlib.Core.Path.{◌≡◌, refl, ap, ◌∙◌, sym}
use mathlib.Core.Bool.{Bool, true, false}
use mathlib.Core.List.{List, [], ◌∷◌, Memᴰ}
use mathlib.Core.Logic.{⊎_elim}
use native.Mathlib.Omega.{arith}
use borrow.Author.Tests.{lt-ltb, le-ltb, ltb-true, ltb-false}
use lib.Dec.{ltb, eqb}
use lib.ListN.{length, get_or, set, length-set, get_or-eq_default}
use lib.Seq.{get_or-set_same, get_or-set_other}
use Rattle.image.specs.Pick.{pick}
use Rattle.image.proofs.Decide.{eq-or-ne}
use Rattle.rules.specs.Sweep.{run}
use Rattle.rules.specs.Vocabulary.{Rec, rec, only}
use Rattle.rules.proofs.Reflect.{tells-eqb, tells-ltb, finds-only, finds-append, finds-run}
use Rattle.std.specs.Prelude.{Option}
use Rattle.records.specs.Records.{Added, hit_list}
use Rattle.records.proofs.Laws.{added-as, added-join}
use Rattle.linear_rows.specs.Tallies.{marks_at, count_at, judged_at, by_cells}

-- the first of a row's cells
pub cell-first : (r : ℕ) → 3 * r + 0 ≡ 3 * r
cell-first r = omega arith

pub marks-cell : (s : List ℕ) (r : ℕ) {m : ℕ} → m ≡ get_or s (3 * r + 0) 0 → m ≡ get_or s (3 * r) 0
marks-cell s r e = e ∙ ap (λ (i : ℕ). get_or s i 0) (cell-first r)

-- over one, or not, as the code added them
module _ {a b m n : ℕ} (r : Rec) (d : a ≡ m) (e : b ≡ n) where
  pub once : a + b ≤ 1 → only (ltb 1 (m + n)) r ≡ []
  unfolding only
  once l = simp (le-ltb 1 (m + n) (omega arith))

  pub twice : 1 < a + b → only (ltb 1 (m + n)) r ≡ r ∷ []
  unfolding only
  twice l = simp (lt-ltb 1 (m + n) (omega arith))

-- what was asked of a row whose place was read as q, one record after the other
pub row-judged : {e : ℕ → ℕ} (m n s : ℕ) {p q : ℕ} (hit : Bool) (two : Option ℕ) {o o' o'' : List ℕ} {k k' k'' : ℕ} → q ≡ p → hit ≡ eqb (m + n) 0 → only (ltb 1 (m + n)) (rec 62 q s) ≡ hit_list two 62 q
    → Added (λ (_ : Unit {0}). e) (λ _. only hit (rec 61 q 0)) 1 o k o' k' → Added (λ (_ : Unit {0}). e) (λ _. hit_list two 62 q) 1 o' k' o'' k'' → Added (λ (_ : Unit {0}). e) (λ _. by_cells p m n s) 2 o k o'' k''
row-judged m n s {q = q} hit two d e f a b =
    added-as (λ x. ap (λ (p : ℕ). by_cells p m n s) d)
    (added-join (added-as (λ x. ap (λ (b : Bool). only b (rec 61 q 0)) e) a) (added-as (λ x. sym f) b))

-- each record of the rows has the place of a row
pub judged-place : (places s : List ℕ) (n : ℕ) (x : Rec) → Memᴰ x (run (judged_at places s) 0 n) → (r : ℕ) × (r < n) × (x.place ≡ get_or places r 0)
judged-place places s n x m =
    let f = (finds-run 0 n (λ r. finds-append _ _ (finds-only _ (tells-eqb (marks_at s r + count_at s r) 0)) (finds-only _ (tells-ltb 1 (marks_at s r + count_at s r))))).so x m in
    let h = f.2 in
    (f.0, omega arith, ⊎_elim (λ d. ap (λ (y : Rec). y.place) d.0) (λ d. ap (λ (y : Rec). y.place) d.0) f.3)

-- s is s₀ with the first n rows blank
pub record Blanked (s₀ : List ℕ) (n : ℕ) (s : List ℕ) : Type 0 where
  pub size : length s ≡ length s₀
  pub cells : (i : ℕ) → get_or s i 0 ≡ pick (ltb i (3 * n)) 0 (get_or s₀ i 0)

pub blanked-none : (s : List ℕ) → Blanked s 0 s
blanked-none s = record { size = refl; cells = λ i. sym (ap (λ (b : Bool). pick b 0 (get_or s i 0)) (le-ltb i (3 * 0) (omega arith))) }

zeroed : (l : List ℕ) (i : ℕ) → get_or (set l i 0) i 0 ≡ 0
zeroed l i = go (ltb i (length l)) refl
  where
    go : (b : Bool) → ltb i (length l) ≡ b → get_or (set l i 0) i 0 ≡ 0
    go true e = get_or-set_same l i 0 0 (ltb-true i (length l) e)
    go false e = get_or-eq_default (set l i 0) 0 (omega (arith, length-set l i 0, ltb-false i (length l) e))

-- a cell that is 0 stays so
kept : (l : List ℕ) (j i : ℕ) → get_or l i 0 ≡ 0 → get_or (set l j 0) i 0 ≡ 0
kept l j i e = ⊎_elim (λ (d : i ≡ j). ap (λ (k : ℕ). get_or (set l k 0) i 0) (sym d) ∙ zeroed l i) (λ (n : i ≡ j → ⊥). get_or-set_other l j i 0 0 n ∙ e) (eq-or-ne i j)

module _ {s₀ s : List ℕ} {r : ℕ} (B : Blanked s₀ r s) where
  -- the rows from r on are as they were
  pub cell-ahead : (i : ℕ) → 3 * r ≤ i → get_or s i 0 ≡ get_or s₀ i 0
  cell-ahead i l = B.cells i ∙ ap (λ (b : Bool). pick b 0 (get_or s₀ i 0)) (le-ltb i (3 * r) l)

  pub judged-ahead : (places : List ℕ) → judged_at places s r ≡ judged_at places s₀ r
  judged-ahead places =
      ap (λ (m : ℕ). by_cells (get_or places r 0) m (get_or s (3 * r + 1) 0) (get_or s (3 * r + 2) 0)) (cell-ahead (3 * r) (omega arith))
      ∙ ap (λ (m : ℕ). by_cells (get_or places r 0) (get_or s₀ (3 * r) 0) m (get_or s (3 * r + 2) 0)) (cell-ahead (3 * r + 1) (omega arith))
      ∙ ap (by_cells (get_or places r 0) (get_or s₀ (3 * r) 0) (get_or s₀ (3 * r + 1) 0)) (cell-ahead (3 * r + 2) (omega arith))

  -- one row more
  pub blanked-on : {s' : List ℕ} → s' ≡ set (set (set s (3 * r) 0) (3 * r + 1) 0) (3 * r + 2) 0 → Blanked s₀ (r + 1) s'
  blanked-on {s'} e = record {
    size = ap length e ∙ length-set (set a (3 * r + 1) 0) (3 * r + 2) 0 ∙ length-set a (3 * r + 1) 0 ∙ length-set s (3 * r) 0 ∙ B.size;
    cells = λ i. ap (λ (l : List ℕ). get_or l i 0) e ∙ go i (ltb i (3 * (r + 1))) refl;
  }
    where
      a : List ℕ
      a = set s (3 * r) 0

      none : (i : ℕ) → i < 3 * (r + 1) → get_or (set (set a (3 * r + 1) 0) (3 * r + 2) 0) i 0 ≡ 0
      none i l =
          ⊎_elim (λ (d : i ≡ 3 * r + 2). ap (λ (k : ℕ). get_or (set (set a (3 * r + 1) 0) k 0) i 0) (sym d) ∙ zeroed (set a (3 * r + 1) 0) i)
          (λ (m : i ≡ 3 * r + 2 → ⊥). kept (set a (3 * r + 1) 0) (3 * r + 2) i
          (⊎_elim (λ (d : i ≡ 3 * r + 1). ap (λ (k : ℕ). get_or (set a k 0) i 0) (sym d) ∙ zeroed a i)
          (λ (n : i ≡ 3 * r + 1 → ⊥). kept a (3 * r + 1) i
          (⊎_elim (λ (d : i ≡ 3 * r). ap (λ (k : ℕ). get_or (set s k 0) i 0) (sym d) ∙ zeroed s i)
          (λ (o : i ≡ 3 * r → ⊥). kept s (3 * r) i (B.cells i ∙ ap (λ (b : Bool). pick b 0 (get_or s₀ i 0)) (lt-ltb i (3 * r) (omega (arith, l, m, n, o)))))
          (eq-or-ne i (3 * r))))
          (eq-or-ne i (3 * r + 1))))
          (eq-or-ne i (3 * r + 2))

      go : (i : ℕ) (b : Bool) → ltb i (3 * (r + 1)) ≡ b → get_or (set (set a (3 * r + 1) 0) (3 * r + 2) 0) i 0 ≡ pick (ltb i (3 * (r + 1))) 0 (get_or s₀ i 0)
      go i true d = none i (ltb-true i (3 * (r + 1)) d) ∙ sym (ap (λ (b : Bool). pick b 0 (get_or s₀ i 0)) d)
      go i false d =
          let l = ltb-false i (3 * (r + 1)) d in
          get_or-set_other (set a (3 * r + 1) 0) (3 * r + 2) i 0 0 (λ q. omega arith) ∙ get_or-set_other a (3 * r + 1) i 0 0 (λ q. omega arith) ∙ get_or-set_other s (3 * r) i 0 0 (λ q. omega arith)
          ∙ cell-ahead i (omega arith) ∙ sym (ap (λ (b : Bool). pick b 0 (get_or s₀ i 0)) d)
