-- A walk over the places of the packed table says what document 01's table says: `fits` of Table, for the row of each kind.
use Prim.Native.Nat.{ℕ, ◌+◌, ◌*◌, ◌%◌, ◌<◌, ◌≤◌}
use mathlib.Core.Path.{◌≡◌, refl, ap, ◌∙◌, sym, subst}
use mathlib.Core.Bool.{Bool, true, false, not, beq, true≢false}
use mathlib.Core.List.{List, [], ◌∷◌}
use mathlib.Core.Logic.{⊎_elim}
use native.Mathlib.Omega.{arith}
use borrow.Author.Tests.{ltb-true, lt-ltb, le-ltb, eqb-true}
use lib.Dec.{ltb, eqb}
use lib.ListN.{get_or-eq_default}
use Rattle.image.specs.Pick.{pick, both, every}
use Rattle.image.specs.Table.{Family, is_of, Part, one_of, maybe_of, any_of, no_row, rows, children, fits}
use Rattle.image.specs.Digits.{families, family_of, part_at, takes, place_after, ends, row_of, fits_from}
use Rattle.image.proofs.Decide.{lt-or-ge}
use Rattle.image.proofs.Every.{both_left, both_right, every-at}
use Rattle.image.proofs.Rows.{nothing, stays, moves, fails-one, fails-end, skips, stops, refuses, passes}
use Rattle.image.proofs.Fitting.{step, bars, apart, not_so, onward, apart-step, past-rows, no-family, apart-past}

-- the part at place q: how often it stands, and that it takes the kinds of f
record Says (q often : ℕ) (f : Family) : Type 0 where
  inside : q < 230
  times : part_at q % 4 ≡ often
  alike : (k : ℕ) → takes (part_at q) (family_of k) ≡ is_of f k

-- from place q on, the packed table has these parts and then a row's end
unfoldable Stands : ℕ → List Part → Type 0
Stands q [] = (q < 230) × (63 ≡ part_at q)
Stands q (one_of f ∷ ps) = Says q 0 f × Stands (q + 1) ps
Stands q (maybe_of f ∷ ps) = Says q 1 f × Stands (q + 1) ps
Stands q (any_of f ∷ ps) = Says q 2 f × Stands (q + 1) ps

-- place 0 stands where nothing fits
standing : Stands 0 no_row
unfolding Stands part_at is_of
standing = (record { inside = omega arith; times = refl; alike = λ k. nothing 60 (family_of k) refl refl }, (omega arith, refl))

-- a child moves a place along as it does the row
goes : (ps : List Part) (q k : ℕ) → Stands q ps → Stands (place_after q (family_of k)) (step ps k)
unfolding Stands step
goes [] q k s = subst (λ (n : ℕ). Stands n no_row) (sym (fails-end q (family_of k) 63 s.0 s.1 (nothing 63 (family_of k) refl refl) (omega arith))) standing
goes (one_of f ∷ ps) q k s = go (is_of f k) (s.0.alike k)
  where
    go : (b : Bool) → takes (part_at q) (family_of k) ≡ b → Stands (place_after q (family_of k)) (pick b ps no_row)
    go true t = let m = s.0.times in subst (λ (n : ℕ). Stands n ps) (sym (moves q (family_of k) (part_at q) s.0.inside refl t (omega arith))) s.1
    go false t = let m = s.0.times in subst (λ (n : ℕ). Stands n no_row) (sym (fails-one q (family_of k) (part_at q) s.0.inside refl t (omega arith))) standing
goes (maybe_of f ∷ ps) q k s = go (is_of f k) (s.0.alike k) (goes ps (q + 1) k s.1)
  where
    go : (b : Bool) → takes (part_at q) (family_of k) ≡ b → Stands (place_after (q + 1) (family_of k)) (step ps k) → Stands (place_after q (family_of k)) (pick b ps (step ps k))
    go true t r = let m = s.0.times in subst (λ (n : ℕ). Stands n ps) (sym (moves q (family_of k) (part_at q) s.0.inside refl t (omega arith))) s.1
    go false t r = let m = s.0.times in subst (λ (n : ℕ). Stands n (step ps k)) (sym (skips q (family_of k) (part_at q) s.0.inside refl t (omega arith) (omega arith))) r
goes (any_of f ∷ ps) q k s = go (is_of f k) (s.0.alike k) (goes ps (q + 1) k s.1)
  where
    go : (b : Bool) → takes (part_at q) (family_of k) ≡ b → Stands (place_after (q + 1) (family_of k)) (step ps k) → Stands (place_after q (family_of k)) (pick b (any_of f ∷ ps) (step ps k))
    go true t r = subst (λ (n : ℕ). Stands n (any_of f ∷ ps)) (sym (stays q (family_of k) (part_at q) s.0.inside refl t s.0.times)) s
    go false t r = let m = s.0.times in subst (λ (n : ℕ). Stands n (step ps k)) (sym (skips q (family_of k) (part_at q) s.0.inside refl t (omega arith) (omega arith))) r

-- and a row may end where its place may
closes : (ps : List Part) (q : ℕ) → Stands q ps → fits ps [] ≡ ends q
unfolding Stands fits
closes [] q s = sym (stops q 63 s.0 s.1 refl)
closes (one_of f ∷ ps) q s = let m = s.0.times in sym (refuses q (part_at q) s.0.inside refl (omega arith) m)
closes (maybe_of f ∷ ps) q s = let m = s.0.times in closes ps (q + 1) s.1 ∙ sym (passes q (part_at q) s.0.inside refl (omega arith) (omega arith))
closes (any_of f ∷ ps) q s = let m = s.0.times in closes ps (q + 1) s.1 ∙ sym (passes q (part_at q) s.0.inside refl (omega arith) (omega arith))

walk : (ks : List ℕ) (ps : List Part) (q : ℕ) → Stands q ps → ((k : ℕ) → apart ps k ≡ true) → fits ps ks ≡ fits_from q ks
unfolding fits_from
walk [] ps q s a = closes ps q s
walk (k ∷ ks) ps q s a = onward ps k ks (a k) ∙ walk ks (step ps k) (place_after q (family_of k)) (goes ps q k s) (λ j. apart-step ps k j (a j))

-- the same by tests, to be computed of each row
alike_at : ℕ → Family → ℕ → Bool
alike_at c f k = beq (takes c (family_of k)) (is_of f k)

says_at : ℕ → ℕ → Family → Bool
says_at q often f = both (ltb q 230) (both (eqb (part_at q % 4) often) (both (not (takes (part_at q) 0)) (every (alike_at (part_at q) f) 46)))

stands_at : ℕ → List Part → Bool
stands_at q [] = both (ltb q 230) (eqb (part_at q) 63)
stands_at q (one_of f ∷ ps) = both (says_at q 0 f) (stands_at (q + 1) ps)
stands_at q (maybe_of f ∷ ps) = both (says_at q 1 f) (stands_at (q + 1) ps)
stands_at q (any_of f ∷ ps) = both (says_at q 2 f) (stands_at (q + 1) ps)

row_at : ℕ → Bool
row_at k = both (stands_at (5 * k) (children k)) (every (apart (children k)) 46)

rows-stand : every row_at 46 ≡ true
unfolding every row_at stands_at says_at alike_at apart bars part_at family_of is_of rows children
rows-stand = refl

beq-so : (a b : Bool) → beq a b ≡ true → a ≡ b
beq-so true true e = refl
beq-so true false e = absurd (true≢false (sym e))
beq-so false true e = absurd (true≢false (sym e))
beq-so false false e = refl

says : (q often : ℕ) (f : Family) → says_at q often f ≡ true → Says q often f
unfolding says_at alike_at family_of
says q often f e =
    let a = both_right (ltb q 230) _ e in
    let b = both_right (eqb (part_at q % 4) often) _ a in
    let n = not_so (takes (part_at q) 0) (both_left (not (takes (part_at q) 0)) _ b) in
    record {
      inside = ltb-true q 230 (both_left (ltb q 230) _ e);
      times = eqb-true _ often (both_left (eqb (part_at q % 4) often) _ a);
      alike = λ k. ⊎_elim
          (λ (l : k < 46). beq-so _ _ (every-at (alike_at (part_at q) f) 46 k (both_right (not (takes (part_at q) 0)) _ b) l))
          (λ (h : 46 ≤ k). ap (takes (part_at q)) (get_or-eq_default families 0 h) ∙ n ∙ sym (no-family f k h))
          (lt-or-ge k 46);
    }

stands : (ps : List Part) (q : ℕ) → stands_at q ps ≡ true → Stands q ps
unfolding stands_at Stands
stands [] q e = (ltb-true q 230 (both_left (ltb q 230) _ e), sym (eqb-true _ 63 (both_right (ltb q 230) _ e)))
stands (one_of f ∷ ps) q e = (says q 0 f (both_left (says_at q 0 f) _ e), stands ps (q + 1) (both_right (says_at q 0 f) _ e))
stands (maybe_of f ∷ ps) q e = (says q 1 f (both_left (says_at q 1 f) _ e), stands ps (q + 1) (both_right (says_at q 1 f) _ e))
stands (any_of f ∷ ps) q e = (says q 2 f (both_left (says_at q 2 f) _ e), stands ps (q + 1) (both_right (says_at q 2 f) _ e))

-- the row of kind k and its place in the packed table fit the same children
pub row_fits : (k : ℕ) (ks : List ℕ) → fits (children k) ks ≡ fits_from (row_of k) ks
unfolding row_at apart
row_fits k ks = ⊎_elim kind no_kind (lt-or-ge k 46)
  where
    kind : k < 46 → fits (children k) ks ≡ fits_from (row_of k) ks
    kind l =
        let t = every-at row_at 46 k rows-stand l in
        let r : row_of k ≡ 5 * k = simp (lt-ltb k 46 l) in
        walk ks (children k) (5 * k) (stands (children k) (5 * k) (both_left (stands_at (5 * k) (children k)) _ t))
        (λ j. ⊎_elim (λ (i : j < 46). every-at (apart (children k)) 46 j (both_right (stands_at (5 * k) (children k)) _ t) i) (λ (h : 46 ≤ j). apart-past (children k) j h) (lt-or-ge j 46))
        ∙ ap (λ (q : ℕ). fits_from q ks) (sym r)

    no_kind : 46 ≤ k → fits (children k) ks ≡ fits_from (row_of k) ks
    no_kind h =
        let r : row_of k ≡ 0 = simp (le-ltb k 46 h) in
        ap (λ (ps : List Part). fits ps ks) (past-rows k h) ∙ walk ks no_row 0 standing (λ j. refl) ∙ ap (λ (q : ℕ). fits_from q ks) (sym r)
