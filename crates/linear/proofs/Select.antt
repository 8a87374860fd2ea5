-- The rows that the tables by name note are those of the rules: marks go to the first row of a name, counted occurrences to the last ("Burn mark", "Counted occurrences" of document 01).
use Prim.Native.Nat.{ℕ, suc, ◌+◌, ◌<◌, ◌≤◌}
use mathlib.Core.Path.{◌≡◌, refl, ap, ◌∙◌, sym}
use mathlib.Core.Bool.{Bool, true, false, not, true≢false}
use mathlib.Core.List.{List, []}
use mathlib.Core.Logic.{inl, inr}
use native.Mathlib.Omega.{arith}
use borrow.Author.Tests.{ne_eqb, ltb-true, ltb-false}
use lib.Dec.{eqb, ltb}
use lib.ListN.{length, get_or}
use Rattle.image.specs.Pick.{pick, both}
use Rattle.rules.specs.Sweep.{also, keep, has, same}
use Rattle.rules.specs.Tree.{Tree, param, ident}
use Rattle.rules.specs.Vocabulary.{alone, below, named}
use Rattle.rules.specs.Linear.{is_earlier, is_later, is_burned, is_counted, marks, uses}
use Rattle.rules.proofs.Reflect.{tells-same, tells-named}
use Rattle.records.proofs.Sweep.{run-empty, run-same}
use Rattle.nodes.specs.Shown.{tree_of}
use Rattle.linear_occurrences.specs.Counted.{Counting}
use Rattle.linear_occurrences.proofs.Entry.{uses-are}
use Rattle.linear_parts.specs.Parts.{rows_of, first_row, last_row}
use Rattle.linear_parts.proofs.Noted.{FirstPasses, first_passes, LastPasses, last-passes, Passes}
use Rattle.linear_tracked.proofs.Reading.{first-of-name, last-of-name}
use Rattle.linear_uses.specs.Uses.{burns_on, uses_on}
use Rattle.linear.specs.Seen.{row_marks, row_uses}

-- three tests, one after another, in either order
drop : (a : Bool) (B C : ℕ → Bool) (y : ℕ) → C y ≡ false → keep a (λ z. keep (B z) (λ u. keep (C z) alone u) z) y ≡ []
unfolding keep
drop false B C y e = refl
drop true B C y e = go (B y)
  where
    go : (b : Bool) → keep b (λ u. keep (C y) alone u) y ≡ []
    go true = rw e
    go false = refl

join : (a : Bool) (B C D : ℕ → Bool) (y : ℕ) → C y ≡ D y → keep a (λ z. keep (B z) (λ u. keep (C z) alone u) z) y ≡ keep a (λ z. keep (both (D z) (B z)) alone z) y
unfolding keep
join false B C D y e = refl
join true B C D y e = rw e (go (B y) (D y))
  where
    go : (b d : Bool) → keep b (λ u. keep d alone u) y ≡ keep (both d b) alone y
    go true true = refl
    go true false = refl
    go false true = refl
    go false false = refl

swap : (a : Bool) (B C D : ℕ → Bool) (y : ℕ) → C y ≡ D y → keep a (λ z. keep (B z) (λ u. keep (C z) alone u) z) y ≡ keep (also a B y) (λ i. keep (D i) alone i) y
unfolding keep
swap false B C D y e = refl
swap true B C D y e = rw e (go (B y))
  where
    go : (b : Bool) → keep b (λ u. keep (D y) alone u) y ≡ keep b (λ i. keep (D i) alone i) y
    go true = refl
    go false = refl

not-not : (b : Bool) → not (not b) ≡ b
not-not true = refl
not-not false = refl

-- A table F notes row r for a word exactly when that is the word of row r and no other row takes it
module _ (t : Tree) (e r : ℕ) (F : List ℕ → ℕ) (E : Bool) (mine : (w : List ℕ) → F w ≡ r + 1 → named t w (get_or (rows_of e t) r 0) ≡ true)
    (d : E ≡ not (eqb (F (t.text (get_or (rows_of e t) r 0 + 1))) (r + 1))) where
  abbrev x : ℕ
  x = get_or (rows_of e t) r 0

  noted-is : (w : List ℕ) → eqb (F w) (r + 1) ≡ both (same w (t.text (x + 1))) (not E)
  noted-is w = go (same w (t.text (x + 1))) refl
    where
      go : (b : Bool) → same w (t.text (x + 1)) ≡ b → eqb (F w) (r + 1) ≡ both b (not E)
      go true q = ap (λ (v : List ℕ). eqb (F v) (r + 1)) ((tells-same w (t.text (x + 1))).so q) ∙ sym (ap not d ∙ not-not _)
      go false q = ne_eqb (F w) (r + 1) (λ z. true≢false (sym ((tells-same w (t.text (x + 1))).back (sym ((tells-named t w x).so (mine w z)))) ∙ q))

  taken-elsewhere : E ≡ true → (w : List ℕ) → eqb (F w) (r + 1) ≡ false
  taken-elsewhere q w = noted-is w ∙ ap (λ (b : Bool). both (same w (t.text (x + 1))) (not b)) q ∙ none (same w (t.text (x + 1)))
    where
      none : (b : Bool) → both b false ≡ false
      none true = refl
      none false = refl

  taken_here : E ≡ false → (w : List ℕ) → eqb (F w) (r + 1) ≡ same w (t.text (x + 1))
  taken_here q w = noted-is w ∙ ap (λ (b : Bool). both (same w (t.text (x + 1))) (not b)) q ∙ all (same w (t.text (x + 1)))
    where
      all : (b : Bool) → both b true ≡ b
      all true = refl
      all false = refl

-- the first, the last row of a word: one that has it, and at most as many as there are rows
module _ (t : Tree) (e : ℕ) (w : List ℕ) where
  pub first-few : first_row t (rows_of e t) w ≤ length (rows_of e t)
  first-few = go _ (first_passes (named t w) 0 (rows_of e t))
    where
      go : (v : ℕ) → FirstPasses (named t w) 0 (rows_of e t) v → v ≤ length (rows_of e t)
      go v (inl f) = let z = f.0 in omega arith
      go v (inr (s, d, P, f)) = let h = P.in_rows in omega arith

  pub last-few : last_row t (rows_of e t) w ≤ length (rows_of e t)
  last-few = go _ (last-passes (named t w) 0 0 (rows_of e t))
    where
      go : (v : ℕ) → LastPasses (named t w) 0 0 (rows_of e t) v → v ≤ length (rows_of e t)
      go v (inl f) = let z = f.0 in omega arith
      go v (inr (s, d, P, f)) = let h = P.in_rows in omega arith

  here : (r s : ℕ) → s ≡ r → Passes (named t w) (rows_of e t) s → named t w (get_or (rows_of e t) r 0) ≡ true
  here r s d P = ap (λ (j : ℕ). named t w (get_or (rows_of e t) j 0)) (sym d) ∙ P.is

  first-mine : (r : ℕ) → first_row t (rows_of e t) w ≡ r + 1 → named t w (get_or (rows_of e t) r 0) ≡ true
  first-mine r = go _ (first_passes (named t w) 0 (rows_of e t))
    where
      go : (v : ℕ) → FirstPasses (named t w) 0 (rows_of e t) v → v ≡ r + 1 → named t w (get_or (rows_of e t) r 0) ≡ true
      go v (inl f) q = let z = f.0 in absurd (omega arith)
      go v (inr (s, d, P, f)) q = here r s (omega arith) P

  last-mine : (r : ℕ) → last_row t (rows_of e t) w ≡ r + 1 → named t w (get_or (rows_of e t) r 0) ≡ true
  last-mine r = go _ (last-passes (named t w) 0 0 (rows_of e t))
    where
      go : (v : ℕ) → LastPasses (named t w) 0 0 (rows_of e t) v → v ≡ r + 1 → named t w (get_or (rows_of e t) r 0) ≡ true
      go v (inl f) q = let z = f.0 in absurd (omega arith)
      go v (inr (s, d, P, f)) q = here r s (omega arith) P

-- Burn marks

module _ (t : Tree) (e : ℕ) (F : List ℕ → ℕ) (r : ℕ) where
  no-burns : ((w : List ℕ) → eqb (F w) (r + 1) ≡ false) → burns_on t e F r ≡ []
  unfolding below
  no-burns n = run-empty _ (suc e) _ (λ y l h. drop (has (t.kind y) param) (is_burned t e) (λ z. eqb (F (t.text (z + 1))) (r + 1)) y (n (t.text (y + 1))))

  no-uses : ((w : List ℕ) → eqb (F w) (r + 1) ≡ false) → (base to : ℕ) → uses_on t e F base to r ≡ []
  no-uses n base to = run-empty _ base _ (λ y l h. drop (has (t.kind y) ident) (is_counted t e) (λ z. eqb (F (t.text z)) (r + 1)) y (n (t.text y)))

marks-here : (t : Tree) (e r : ℕ) → r < length (rows_of e t) → burns_on t e (first_row t (rows_of e t)) r ≡ marks t e (get_or (rows_of e t) r 0)
unfolding marks below named
marks-here t e r l = go (is_earlier t e x) refl
  where
    x : ℕ
    x = get_or (rows_of e t) r 0

    F : List ℕ → ℕ
    F = first_row t (rows_of e t)

    go : (b : Bool) → is_earlier t e x ≡ b → burns_on t e F r ≡ pick b [] (below t param e (λ y. keep (both (named t (t.text (x + 1)) y) (is_burned t e y)) alone y))
    go true q = no-burns t e F r (taken-elsewhere t e r F (is_earlier t e x) (λ w. first-mine t e w r) (first-of-name t e r l) q)
    go false q = run-same _ _ (suc e) _ (λ y g h. join (has (t.kind y) param) (is_burned t e) (λ z. eqb (F (t.text (z + 1))) (r + 1)) (named t (t.text (x + 1))) y (taken_here t e r F (is_earlier t e x) (λ w. first-mine t e w r) (first-of-name t e r l) q (t.text (y + 1))))

-- Counted occurrences

-- a row that a later one of its name takes over has none
no-use : (t : Tree) (e x : ℕ) → is_later t e x ≡ true → uses t e x ≡ []
unfolding uses
no-use t e x q = rw q

module _ {nodes : List ℕ} {base : ℕ} {reader : List Bool} (T : Counting nodes base reader) where
  uses-here : (r : ℕ) → r < length (rows_of T.entry (tree_of T.view)) → uses_on (tree_of T.view) T.entry (last_row (tree_of T.view) (rows_of T.entry (tree_of T.view))) base T.view.upto r ≡ uses (tree_of T.view) T.entry (get_or (rows_of T.entry (tree_of T.view)) r 0)
  uses-here r l = go (is_later t e x) refl
    where
      t : Tree
      t = tree_of T.view

      e : ℕ
      e = T.entry

      x : ℕ
      x = get_or (rows_of e t) r 0

      F : List ℕ → ℕ
      F = last_row t (rows_of e t)

      go : (b : Bool) → is_later t e x ≡ b → uses_on t e F base T.view.upto r ≡ uses t e x
      go true q = no-uses t e F r (taken-elsewhere t e r F (is_later t e x) (λ w. last-mine t e w r) (last-of-name t e r l) q) base T.view.upto ∙ sym (no-use t e x q)
      go false q = run-same _ _ base _ (λ y g h. swap (has (t.kind y) ident) (is_counted t e) (λ z. eqb (F (t.text z)) (r + 1)) (λ i. same (t.text i) (t.text (x + 1))) y (taken_here t e r F (is_later t e x) (λ w. last-mine t e w r) (last-of-name t e r l) q (t.text y))) ∙ sym (uses-are T x q)

-- a row's, or nothing where there is no such row
absent : (t : Tree) (e r : ℕ) (F : List ℕ → ℕ) → ((w : List ℕ) → F w ≤ length (rows_of e t)) → length (rows_of e t) ≤ r → (w : List ℕ) → eqb (F w) (r + 1) ≡ false
absent t e r F f h w = ne_eqb (F w) (r + 1) (λ d. let k = f w in omega arith)

pub marks-on : (t : Tree) (e r : ℕ) → burns_on t e (first_row t (rows_of e t)) r ≡ row_marks t e r
marks-on t e r = go (ltb r (length (rows_of e t))) refl
  where
    go : (b : Bool) → ltb r (length (rows_of e t)) ≡ b → burns_on t e (first_row t (rows_of e t)) r ≡ pick b (marks t e (get_or (rows_of e t) r 0)) []
    go true q = marks-here t e r (ltb-true r _ q)
    go false q = no-burns t e _ r (absent t e r (first_row t (rows_of e t)) (first-few t e) (ltb-false r _ q))

pub uses-on : {nodes : List ℕ} {base : ℕ} {reader : List Bool} (T : Counting nodes base reader) (r : ℕ)
    → uses_on (tree_of T.view) T.entry (last_row (tree_of T.view) (rows_of T.entry (tree_of T.view))) base T.view.upto r ≡ row_uses (tree_of T.view) T.entry r
uses-on {base = base} T r = go (ltb r (length (rows_of T.entry (tree_of T.view)))) refl
  where
    go : (b : Bool) → ltb r (length (rows_of T.entry (tree_of T.view))) ≡ b
        → uses_on (tree_of T.view) T.entry (last_row (tree_of T.view) (rows_of T.entry (tree_of T.view))) base T.view.upto r ≡ pick b (uses (tree_of T.view) T.entry (get_or (rows_of T.entry (tree_of T.view)) r 0)) []
    go true q = uses-here T r (ltb-true r _ q)
    go false q = no-uses (tree_of T.view) T.entry _ r (absent (tree_of T.view) T.entry r (last_row (tree_of T.view) (rows_of T.entry (tree_of T.view))) (last-few (tree_of T.view) T.entry) (ltb-false r _ q)) base T.view.upto
