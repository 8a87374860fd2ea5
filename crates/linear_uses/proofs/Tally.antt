-- One node more on a row and one more in its cell, the tallies of the rows with one more mark, and the room in their cells.
use Prim.Native.Nat.{ℕ, zero, suc, ◌+◌, ◌*◌, ◌-◌, ◌<◌, ◌≤◌}
use mathlib.Core.Path.{◌≡◌, refl, ap, ◌∙◌, sym}
use mathlib.Core.Bool.{Bool, true, false}
use mathlib.Core.List.{List, [], ◌∷◌, ◌++◌, append-nil}
use mathlib.Core.Logic.{⊎_elim}
use native.Mathlib.Omega.{arith}
use borrow.Author.Tests.{eq-eqb, ne_eqb}
use lib.Dec.{eqb}
use lib.ListN.{length, get_or, set, length-set, length-append}
use lib.Seq.{get_or-set_same, get_or-set_other}
use Rattle.image.proofs.Decide.{eq-or-ne}
use Rattle.rules.specs.Sweep.{keep, run}
use Rattle.rules.specs.Vocabulary.{alone}
use Rattle.linear_rows.specs.Tallies.{Tallied}
use Rattle.linear_rows.proofs.Tallied.{tallied-as, related-none}
use Rattle.linear_uses.specs.Uses.{SpareMarks}

-- one node more, which the test keeps or leaves out
kept : {b : Bool} (m : List ℕ) (x : ℕ) → b ≡ true → length (m ++ keep b alone x) ≡ length m + 1
unfolding keep
kept m x e = rw e (length-append m (x ∷ []))

pub left_out : {b : Bool} (m : List ℕ) (x : ℕ) → b ≡ false → m ++ keep b alone x ≡ m
unfolding keep
left_out m x e = rw e (append-nil m)

-- a cell of each row holds the length of the row's list: x is put on the row that v notes, and one more is in its cell
pub on-its-row : (cell : ℕ → ℕ) → ((r q : ℕ) → cell r ≡ cell q → r ≡ q) → (X : ℕ → List ℕ) (s : List ℕ) (v x : ℕ) → 0 < v → cell (v - 1) < length s → ((r : ℕ) → r < 511 → get_or s (cell r) 0 ≡ length (X r))
    → (r : ℕ) → r < 511 → get_or (set s (cell (v - 1)) (get_or s (cell (v - 1)) 0 + 1)) (cell r) 0 ≡ length (X r ++ keep (eqb v (r + 1)) alone x)
on-its-row cell one X s v x z b C r l =
    ⊎_elim
    (λ (d : v ≡ r + 1).
    let q : v - 1 ≡ r = omega arith in
    let a : cell r < length s = rw q at b in
    rw q (get_or-set_same s (cell r) (get_or s (cell r) 0 + 1) 0 a ∙ ap (λ (n : ℕ). n + 1) (C r l) ∙ sym (kept (X r) x (eq-eqb v (r + 1) d))))
    (λ (d : v ≡ r + 1 → ⊥).
    get_or-set_other s (cell (v - 1)) (cell r) _ 0 (λ q. d (let e = one r (v - 1) q in omega arith)) ∙ C r l ∙ sym (ap length (left_out (X r) x (ne_eqb v (r + 1) d))))
    (eq-or-ne v (r + 1))

module _ {M : ℕ → List ℕ} {s : List ℕ} (v x : ℕ) (t : Tallied M (λ r. []) s) where
  -- the table notes no row
  pub tally-none : v ≡ 0 → Tallied (λ r. M r ++ keep (eqb v (r + 1)) alone x) (λ r. []) s
  tally-none z = tallied-as (λ r. sym (left_out (M r) x (ne_eqb v (r + 1) (λ e. omega arith)))) (λ r. refl) t

  -- it notes row v - 1, which has one mark more
  pub tally-mark : (i : ℕ) → 0 < v → v ≤ 511 → i ≡ 3 * (v - 1) → Tallied (λ r. M r ++ keep (eqb v (r + 1)) alone x) (λ r. []) (set s i (get_or s i 0 + 1))
  tally-mark i z f e = record {
    size = length-set s i _ ∙ t.size;
    marks = λ r l. rw e (on-its-row (λ (q : ℕ). 3 * q) (λ r q d. omega arith) M s v x z (let g = t.size in omega arith) t.marks r l);
    counts = λ r l. get_or-set_other s i (3 * r + 1) _ 0 (λ q. omega arith) ∙ t.counts r l;
    relateds = λ r l. get_or-set_other s i (3 * r + 2) _ 0 (λ q. omega arith) ∙ t.relateds r l ∙ related-none (M r) ∙ sym (related-none (M r ++ keep (eqb v (r + 1)) alone x));
  }

-- at most one a node leaves room
pub keep-few : (b : Bool) (f : ℕ → List ℕ) (i : ℕ) → length (f i) ≤ 1 → length (keep b f i) ≤ 1
unfolding keep
keep-few true f i h = h
keep-few false f i h = omega arith

pub run-few : (f : ℕ → List ℕ) (a n : ℕ) → ((i : ℕ) → length (f i) ≤ 1) → length (run f a n) ≤ n
unfolding run
run-few f a zero h = omega arith
run-few f a (suc n) h = let i = run-few f a n h in let j = h (a + n) in let k = length-append (run f a n) (f (a + n)) in omega arith

pub tally-spare : {M : ℕ → List ℕ} {s : List ℕ} → Tallied M (λ r. []) s → ((r : ℕ) → length (M r) ≤ 2048) → SpareMarks s
tally-spare t h = record {
  more_marks = λ r l. let e = t.marks r l in let k = h r in omega arith;
}
