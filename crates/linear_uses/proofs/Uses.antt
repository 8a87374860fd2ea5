-- One more counted occurrence on a row, its related word, and the occurrences that a sweep has counted ("Counted occurrences" of document 01).
use Prim.Native.Nat.{ℕ, ◌+◌, ◌*◌, ◌-◌, ◌<◌, ◌≤◌}
use mathlib.Core.Path.{◌≡◌, refl, ap, ◌∙◌, sym}
use mathlib.Core.Bool.{Bool, true, false}
use mathlib.Core.List.Memᴰ
use mathlib.Core.List.{List, [], ◌∷◌, ◌++◌, append-nil}
use mathlib.Core.Logic.{⊎_elim, inr}
use native.Mathlib.Nat.{sub_self}
use native.Mathlib.Omega.{arith}
use borrow.Author.Tests.{eq-eqb, ne_eqb}
use lib.Dec.{eqb}
use lib.ListN.{length, get_or, set, length-set, length-append}
use lib.Seq.{get_or-set_same, get_or-set_other}
use Rattle.std.specs.Prelude.{Option, None, Some}
use Rattle.image.proofs.Decide.{eq-or-ne}
use Rattle.rules.specs.Sweep.{also, keep, run, has}
use Rattle.rules.specs.Tree.{Tree, ident}
use Rattle.rules.specs.Vocabulary.{alone}
use Rattle.rules.specs.Linear.{is_counted, related_use}
use Rattle.records.proofs.Sweep.{run_none, run_on, keep_one}
use Rattle.nodes.specs.Shown.{In, View, tree_of}
use Rattle.places.specs.Places.{Places}
use Rattle.linear_occurrences.specs.declared.Occurrence.{Occurrence}
use Rattle.linear_occurrences.specs.Counted.{Finding, for_ident}
use Rattle.linear_rows.specs.Tallies.{Tallied, marks_at, count_at, related_at, related_turn}
use Rattle.linear_rows.proofs.Tallied.{tallied-as, related-is, related-stays}
use Rattle.linear_uses.specs.Uses.{SpareCounts, OnRows, Using, Spoken, on_row, use_at}
use Rattle.linear_uses.proofs.Tally.{left_out, on-its-row, keep-few, run-few}

-- no occurrence
pub not-used : {M U : ℕ → List ℕ} {s : List ℕ} → Tallied M U s → Tallied M (λ r. U r ++ []) s
not-used {U = U} T = tallied-as (λ r. refl) (λ r. sym (append-nil (U r))) T

-- p on the row that v notes
abbrev put : ℕ → ℕ → ℕ → List ℕ
put v p r = keep (eqb v (r + 1)) alone p

module _ {M U : ℕ → List ℕ} {s : List ℕ} (T : Tallied M U s) (v p : ℕ) where
  -- on another row nothing is put
  elsewhere : (r : ℕ) → (v ≡ r + 1 → ⊥) → U r ≡ U r ++ put v p r
  elsewhere r n = sym (left_out (U r) p (ne_eqb v (r + 1) n))

  pub no_row : v ≡ 0 → Tallied M (λ r. U r ++ put v p r) s
  no_row z = tallied-as (λ r. refl) (λ r. elsewhere r (λ d. omega arith)) T

  -- one more in the count of the row that the code knows as w
  module _ {w : ℕ} (k : v ≡ w) (z : w ≡ 0 → ⊥) (h : w ≤ 511) {s' : List ℕ} (g : s' ≡ set s (3 * (w - 1) + 1) (get_or s (3 * (w - 1) + 1) 0 + 1)) where
    long : length s' ≡ 1533
    long = ap length g ∙ length-set s (3 * (w - 1) + 1) (get_or s (3 * (w - 1) + 1) 0 + 1) ∙ T.size

    others : (i : ℕ) → (i ≡ 3 * (w - 1) + 1 → ⊥) → get_or s' i 0 ≡ get_or s i 0
    others i n = ap (λ (l : List ℕ). get_or l i 0) g ∙ get_or-set_other s (3 * (w - 1) + 1) i (get_or s (3 * (w - 1) + 1) 0 + 1) 0 n

    counted : (r : ℕ) → r < 511 → count_at s' r ≡ length (U r ++ put v p r)
    counted r l =
        ap (λ (y : List ℕ). count_at y r) g ∙ on-its-row (λ (q : ℕ). 3 * q + 1) (λ r q d. omega arith) U s w p (omega (arith, z)) (let n = T.size in omega arith) T.counts r l
        ∙ ap (λ (y : ℕ). length (U r ++ keep (eqb y (r + 1)) alone p)) (sym k)

    -- the turn of the related word by the cells is that by the lists
    put-here : U (w - 1) ++ put v p (w - 1) ≡ U (w - 1) ++ p ∷ []
    put-here = ap (λ (l : List ℕ). U (w - 1) ++ l) (keep_one alone p (eq-eqb v (w - 1 + 1) (omega (arith, z))))

    count-is : length (U (w - 1)) + 1 ≡ count_at s' (w - 1)
    count-is = sym (counted (w - 1) (omega arith) ∙ ap length put-here ∙ length-append (U (w - 1)) (p ∷ []))

    turn_is : related_turn (marks_at s' (w - 1)) ≡ related_turn (length (M (w - 1)))
    turn_is = ap related_turn (others (3 * (w - 1)) (λ d. omega arith) ∙ T.marks (w - 1) (omega arith))

    -- tallies that have s' in all cells but this row's related word, which has p among the row's occurrences
    used : {s'' : List ℕ} → length s'' ≡ 1533 → ((i : ℕ) → (i ≡ 3 * (w - 1) + 2 → ⊥) → get_or s'' i 0 ≡ get_or s' i 0) → related_at s'' (w - 1) ≡ related_use (M (w - 1)) (U (w - 1) ++ p ∷ []) → Tallied M (λ r. U r ++ put v p r) s''
    used {s''} len other rel = record {
      size = len;
      marks = λ r l. other (3 * r) (λ d. omega arith) ∙ others (3 * r) (λ d. omega arith) ∙ T.marks r l;
      counts = λ r l. other (3 * r + 1) (λ d. omega arith) ∙ counted r l;
      relateds = λ r l.
          ⊎_elim
          (λ (d : r ≡ w - 1). ap (related_at s'') d ∙ rel ∙ ap (related_use (M (w - 1))) (sym put-here) ∙ ap (λ (q : ℕ). related_use (M q) (U q ++ put v p q)) (sym d))
          (λ (n : r ≡ w - 1 → ⊥). other (3 * r + 2) (λ d. n (omega arith)) ∙ others (3 * r + 2) (λ d. omega arith) ∙ T.relateds r l ∙ ap (related_use (M r)) (elsewhere r (λ d. n (omega arith))))
          (eq-or-ne r (w - 1));
    }

    -- where its turn has come, p is that word
    pub use-related : count_at s' (w - 1) ≡ related_turn (marks_at s' (w - 1)) → Tallied M (λ r. U r ++ put v p r) (set s' (3 * (w - 1) + 2) p)
    use-related turn =
        used
        (length-set s' (3 * (w - 1) + 2) p ∙ long)
        (λ i n. get_or-set_other s' (3 * (w - 1) + 2) i p 0 n)
        (get_or-set_same s' (3 * (w - 1) + 2) p 0 (omega (arith, long)) ∙ sym (related-is (M (w - 1)) (U (w - 1)) p (count-is ∙ turn ∙ turn_is)))

    pub use-other : (count_at s' (w - 1) ≡ related_turn (marks_at s' (w - 1)) → ⊥) → Tallied M (λ r. U r ++ put v p r) s'
    use-other n =
        used long (λ i k. refl)
        (others (3 * (w - 1) + 2) (λ d. omega arith) ∙ T.relateds (w - 1) (omega arith) ∙ sym (related-stays (M (w - 1)) (U (w - 1)) p (λ d. n (sym count-is ∙ d ∙ sym turn_is))))

-- the number that the table has for a word: 0, or one more than a row's
pub record Given (w r : ℕ) : Type 0 where
  pub is : w ≡ r
  pub few : r ≤ 511
  pub before : (r ≡ 0 → ⊥) → r - 1 < 511

pub given : {nodes : List ℕ} {base : ℕ} {rows : List ℕ} (p : ℕ) {r : ℕ} (T : OnRows nodes base rows) → ((W : View nodes base) (F : List ℕ → ℕ) → Places W.image F rows → r ≡ F ((tree_of W).text p)) → Given (T.row_of ((tree_of T.view).text p)) r
given p T f =
    let e = f T.view T.row_of T.noted in
    let l = T.few ((tree_of T.view).text p) in
    record { is = sym e; few = omega arith; before = λ z. omega (arith, z) }

-- what a sweep is lent
abbrev pub on_rows : {nodes : List ℕ} {base : ℕ} {reader : List Bool} {rows : List ℕ} → Using nodes base reader rows → OnRows nodes base rows
on_rows T = record { view = T.counting.view; row_of = T.row_of; noted = T.noted; few = T.few }

-- the Ident that was found is a word
pub spoken : {nodes : List ℕ} {base p : ℕ} (W : View nodes base) (e : ℕ) → In nodes base p → (found : Option Occurrence) → Finding (tree_of W) e p found → Spoken nodes base found
spoken W e i None F = tt
spoken W e i (Some o) F = rw F.0 (record { view = W; here = i; carries = inr (Memᴰ.eq_of_singleton F.1.0.kind) })

-- two tests one after the other
pub keep-also : (b : Bool) (q : ℕ → Bool) (f : ℕ → ℕ → List ℕ) (p : ℕ) → keep (also b q p) (λ i. f i i) p ≡ keep b (λ i. keep (q i) (f i) i) p
unfolding keep
keep-also true q f p = go (q p)
  where
    go : (c : Bool) → keep c (λ i. f i i) p ≡ keep c (f p) p
    go true = refl
    go false = refl
keep-also false q f p = refl

module _ (t : Tree) (e : ℕ) (F : List ℕ → ℕ) (base : ℕ) where
  -- none at the start; one more node
  pub uses-start : {M : ℕ → List ℕ} {s : List ℕ} → Tallied M (λ r. []) s → Tallied M (λ r. run (use_at t e F r) base (base - base)) s
  uses-start T = tallied-as (λ r. refl) (λ r. sym (ap (run (use_at t e F r) base) (sub_self base) ∙ run_none (use_at t e F r) base)) T

  pub uses-on : {M : ℕ → List ℕ} {s : List ℕ} {p : ℕ} (found : Option Occurrence) → base ≤ p → ((f : ℕ → List ℕ) → for_ident found f ≡ keep (also (has (t.kind p) ident) (is_counted t e) p) f p)
      → Tallied M (λ r. run (use_at t e F r) base (p - base) ++ for_ident found (λ i. on_row F r (t.text i) i)) s → Tallied M (λ r. run (use_at t e F r) base (p + 1 - base)) s
  uses-on {p = p} found l d T =
      tallied-as (λ r. refl)
      (λ r.
      ap (λ (m : List ℕ). run (use_at t e F r) base (p - base) ++ m)
      (d (λ i. on_row F r (t.text i) i) ∙ keep-also (has (t.kind p) ident) (is_counted t e) (λ i. on_row F r (t.text i)) p)
      ∙ sym (run_on (use_at t e F r) base p (p + 1) l (omega arith) (λ i g h. absurd (omega arith))))
      T

  -- fewer than a cell can hold
  pub uses-spare : {M : ℕ → List ℕ} {s : List ℕ} {p : ℕ} → p ≤ 2048 → Tallied M (λ r. run (use_at t e F r) base (p - base)) s → SpareCounts s
  uses-spare {p = p} l T = record {
    more_counts = λ r h.
        let c = T.counts r h in
        let f = run-few (use_at t e F r) base (p - base) (λ i. keep-few (has (t.kind i) ident) (λ j. keep (is_counted t e j) (on_row F r (t.text j)) j) i (keep-few (is_counted t e i) (on_row F r (t.text i)) i (keep-few (eqb (F (t.text i)) (r + 1)) alone i (omega arith)))) in
        omega (arith, c, f);
  }
