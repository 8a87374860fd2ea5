-- Document 01's table of children, child by child: the first child's kind settles what the others are to fit, since no two parts of a row that may follow one another take the same kind.
use Prim.Native.Nat.{ℕ, ◌<◌, ◌≤◌}
use mathlib.Core.Path.{◌≡◌, refl, ◌∙◌, sym}
use mathlib.Core.Bool.{Bool, true, false, not, ◌&&◌, ◌||◌, true≢false, or-false}
use mathlib.Core.List.{List, [], ◌∷◌}
use native.Mathlib.Omega.{arith}
use borrow.Author.Tests.{ne_eqb, lt-leb}
use lib.Dec.{leb}
use lib.ListN.{get_or-eq_default}
use Rattle.image.specs.Pick.{pick, both, among}
use Rattle.image.specs.Table.{Family, Names, Items, FieldDecls, EventParameters, Stmts, Clauses, Parameters, Types, IntLits, MofNs, Durations, Expressions, ◌or◌, NoKind, is_of, Part, one_of, maybe_of, any_of, no_row, rows, children, fits}
use Rattle.image.proofs.Every.{both_left, both_right, both_false}

-- what is left of a row behind a child of kind k: from the first part that takes it
unfoldable pub step : List Part → ℕ → List Part
step [] k = no_row
step (one_of f ∷ ps) k = pick (is_of f k) ps no_row
step (maybe_of f ∷ ps) k = pick (is_of f k) ps (step ps k)
step (any_of f ∷ ps) k = pick (is_of f k) (any_of f ∷ ps) (step ps k)

-- a row that no child of kind k begins; and where a part takes kind k, what is behind it does not begin with it
unfoldable pub bars : List Part → ℕ → Bool
bars [] k = true
bars (one_of f ∷ ps) k = not (is_of f k)
bars (maybe_of f ∷ ps) k = both (not (is_of f k)) (bars ps k)
bars (any_of f ∷ ps) k = both (not (is_of f k)) (bars ps k)

unfoldable pub apart : List Part → ℕ → Bool
apart [] k = true
apart (one_of f ∷ ps) k = apart ps k
apart (maybe_of f ∷ ps) k = both (pick (is_of f k) (bars ps k) true) (apart ps k)
apart (any_of f ∷ ps) k = both (pick (is_of f k) (bars ps k) true) (apart ps k)

pub not_so : (b : Bool) → not b ≡ true → b ≡ false
not_so true e = absurd (true≢false (sym e))
not_so false e = refl

barred : (ps : List Part) (k : ℕ) (ks : List ℕ) → bars ps k ≡ true → fits ps (k ∷ ks) ≡ false
unfolding fits bars
barred [] k ks e = refl
barred (one_of f ∷ ps) k ks e = simp (not_so (is_of f k) e)
barred (maybe_of f ∷ ps) k ks e = let n = not_so (is_of f k) (both_left (not (is_of f k)) _ e) in let r = barred ps k ks (both_right (not (is_of f k)) _ e) in simp (n, r)
barred (any_of f ∷ ps) k ks e = let n = not_so (is_of f k) (both_left (not (is_of f k)) _ e) in let r = barred ps k ks (both_right (not (is_of f k)) _ e) in simp (n, r)

none-fit : (ks : List ℕ) → fits no_row ks ≡ false
unfolding fits is_of
none-fit [] = refl
none-fit (k ∷ ks) = refl

-- the first child settles what the others are to fit
pub onward : (ps : List Part) (k : ℕ) (ks : List ℕ) → apart ps k ≡ true → fits ps (k ∷ ks) ≡ fits (step ps k) ks
unfolding fits step apart
onward [] k ks a = sym (none-fit ks)
onward (one_of f ∷ ps) k ks a = go (is_of f k)
  where
    go : (b : Bool) → (b && fits ps ks) ≡ fits (pick b ps no_row) ks
    go true = refl
    go false = sym (none-fit ks)
onward (maybe_of f ∷ ps) k ks a = go (is_of f k) (both_left (pick (is_of f k) (bars ps k) true) _ a) (onward ps k ks (both_right (pick (is_of f k) (bars ps k) true) _ a))
  where
    go : (b : Bool) → pick b (bars ps k) true ≡ true → fits ps (k ∷ ks) ≡ fits (step ps k) ks → (fits ps (k ∷ ks) || b && fits ps ks) ≡ fits (pick b ps (step ps k)) ks
    go true e r = simp (barred ps k ks e)
    go false e r = or-false (fits ps (k ∷ ks)) ∙ r
onward (any_of f ∷ ps) k ks a = go (is_of f k) (both_left (pick (is_of f k) (bars ps k) true) _ a) (onward ps k ks (both_right (pick (is_of f k) (bars ps k) true) _ a))
  where
    go : (b : Bool) → pick b (bars ps k) true ≡ true → fits ps (k ∷ ks) ≡ fits (step ps k) ks → (fits ps (k ∷ ks) || b && fits (any_of f ∷ ps) ks) ≡ fits (pick b (any_of f ∷ ps) (step ps k)) ks
    go true e r = simp (barred ps k ks e)
    go false e r = or-false (fits ps (k ∷ ks)) ∙ r

-- what is left of a row is apart where the row is
pub apart-step : (ps : List Part) (k j : ℕ) → apart ps j ≡ true → apart (step ps k) j ≡ true
unfolding apart step
apart-step [] k j a = refl
apart-step (one_of f ∷ ps) k j a = go (is_of f k)
  where
    go : (b : Bool) → apart (pick b ps no_row) j ≡ true
    go true = a
    go false = refl
apart-step (maybe_of f ∷ ps) k j a = go (is_of f k) (apart-step ps k j (both_right (pick (is_of f j) (bars ps j) true) _ a))
  where
    go : (b : Bool) → apart (step ps k) j ≡ true → apart (pick b ps (step ps k)) j ≡ true
    go true r = both_right (pick (is_of f j) (bars ps j) true) _ a
    go false r = r
apart-step (any_of f ∷ ps) k j a = go (is_of f k) (apart-step ps k j (both_right (pick (is_of f j) (bars ps j) true) _ a))
  where
    go : (b : Bool) → apart (step ps k) j ≡ true → apart (pick b (any_of f ∷ ps) (step ps k)) j ≡ true
    go true r = a
    go false r = r

-- what is no kind is of no family, and has no row
past : (low high k : ℕ) → high < k → among low high k ≡ false
past low high k h = simp (lt-leb k high h, both_false (leb low k))

pub past-rows : (k : ℕ) → 46 ≤ k → children k ≡ no_row
unfolding children rows
past-rows k h = get_or-eq_default rows no_row h

pub no-family : (f : Family) (k : ℕ) → 46 ≤ k → is_of f k ≡ false
unfolding is_of
no-family Names k h = ne_eqb k 23 (omega arith)
no-family Items k h =
    let a : k ≡ 2 → ⊥ = omega arith in
    let b : k ≡ 3 → ⊥ = omega arith in
    let c : k ≡ 5 → ⊥ = omega arith in
    let d : k ≡ 7 → ⊥ = omega arith in
    let e : k ≡ 8 → ⊥ = omega arith in
    let g : k ≡ 9 → ⊥ = omega arith in
    simp (ne_eqb k 2 a, ne_eqb k 3 b, ne_eqb k 5 c, ne_eqb k 7 d, ne_eqb k 8 e, ne_eqb k 9 g)
no-family FieldDecls k h = ne_eqb k 4 (omega arith)
no-family EventParameters k h = ne_eqb k 6 (omega arith)
no-family Stmts k h = past 24 28 k (omega arith)
no-family Clauses k h = past 14 21 k (omega arith)
no-family Parameters k h = ne_eqb k 10 (omega arith)
no-family Types k h = ne_eqb k 11 (omega arith)
no-family IntLits k h = ne_eqb k 12 (omega arith)
no-family MofNs k h = ne_eqb k 13 (omega arith)
no-family Durations k h = ne_eqb k 22 (omega arith)
no-family Expressions k h = past 32 45 k (omega arith)
no-family (f or g) k h = simp (no-family f k h, no-family g k h)
no-family NoKind k h = refl

pub apart-past : (ps : List Part) (k : ℕ) → 46 ≤ k → apart ps k ≡ true
unfolding apart
apart-past [] k h = refl
apart-past (one_of f ∷ ps) k h = apart-past ps k h
apart-past (maybe_of f ∷ ps) k h = simp (no-family f k h, apart-past ps k h)
apart-past (any_of f ∷ ps) k h = simp (no-family f k h, apart-past ps k h)
