-- What document 01's table says of the children of a node, whatever its kind: they are the parts of its row, one after the other, up to the node's end.
use Prim.Native.Nat.{ℕ, zero, suc, ◌+◌, ◌*◌, ◌%◌, ◌<◌, ◌≤◌}
use mathlib.Core.Path.{◌≡◌, refl, ap, ◌∙◌, sym, subst}
use mathlib.Core.Bool.{Bool, true, false, true≢false}
use mathlib.Core.List.{List, [], ◌∷◌}
use mathlib.Core.Logic.{◌⊎◌, inl, inr, ⊎_elim}
use native.Mathlib.Omega.{arith}
use borrow.Author.Tests.{lt-ltb, le-ltb, ltb-true, leb-true, eqb-true, eq-eqb}
use lib.Dec.{ltb, leb, eqb}
use Rattle.image.specs.Pick.{pick, both, every}
use Rattle.image.specs.Node.{kind_of, end_of}
use Rattle.image.specs.Digits.{family_of, part_at, takes, place_after, ends, row_of, children_from}
use Rattle.image.specs.Tree.{children_fit}
use Rattle.image.proofs.Decide.{decide, lt-or-ge}
use Rattle.image.proofs.Every.{both_left, both_right, every-at}
use Rattle.image.proofs.Rows.{nothing, stays, moves, skips, passes}
use Rattle.image.proofs.Digits.{family-past}
use Rattle.image.proofs.Nest.{within}
use Rattle.image.proofs.Shape.{Child, Walk, once, last, children-of}

-- children from `at` up to `mid`, one after the other, each taken by the part p
pub data Run (s : List ℕ) (p mid : ℕ) : ℕ → Type 0 where
  done : {at : ℕ} → at ≡ mid → Run s p mid at
  next : {at : ℕ} → Child s p at mid → Run s p mid (end_of s at) → Run s p mid at

abbrev pub Either3 : ℕ → Type 0 → Type 0 → Type 0 → Type 0
Either3 zero a b c = a
Either3 (suc zero) a b c = b
Either3 (suc (suc n)) a b c = c

-- the children from `at` up to e are those of these parts: each once, at most once, or a run, by how often the part stands
unfoldable pub Rest : List ℕ → List ℕ → ℕ → ℕ → Type 0
Rest s [] at e = at ≡ e
Rest s (p ∷ ps) at e =
    Either3 (p % 4)
    (Child s p at e × Rest s ps (end_of s at) e)
    ((Child s p at e × Rest s ps (end_of s at) e) ⊎ Rest s ps at e)
    ((mid : ℕ) × Run s p mid at × Rest s ps mid e)

-- the parts of a row from place q on, up to its end
unfoldable pub parts_from : ℕ → ℕ → List ℕ
parts_from zero q = []
parts_from (suc n) q = pick (eqb (part_at q) 63) [] (part_at q ∷ parts_from n (q + 1))

unfoldable pub parts_of : ℕ → List ℕ
parts_of k = parts_from 5 (row_of k)

-- the row ends within n parts
unfoldable ends_by : ℕ → ℕ → Bool
ends_by zero q = false
ends_by (suc n) q = both (ltb q 230) (pick (eqb (part_at q) 63) true (both (leb (part_at q % 4) 2) (ends_by n (q + 1))))

pub run-within : {s : List ℕ} {p mid at : ℕ} → Run s p mid at → at ≤ mid
run-within (done e) = omega arith
run-within (next c r) = let i = c.inside in omega arith

choose : {A B C : Type 0} (m : ℕ) → m ≤ 2 → (m ≡ 0 → A) → (m ≡ 1 → B) → (m ≡ 2 → C) → Either3 m A B C
choose zero l a b c = a refl
choose (suc zero) l a b c = b refl
choose (suc (suc zero)) l a b c = c refl
choose (suc (suc (suc n))) l a b c = absurd (omega arith)

module _ (s : List ℕ) where
  module _ (q e p : ℕ) (inside : q < 230) (is : p ≡ part_at q) where
    -- a part that may be left out takes the next child, or the row goes on behind it
    optional : (at : ℕ) → 1 ≤ p % 4 → p % 4 ≤ 2 → (k : ℕ) → children_from k s q at e ≡ true → (Child s p at e × ((j : ℕ) × (k ≡ suc j) × (children_from j s (place_after q (family_of (kind_of s at))) (end_of s at) e ≡ true))) ⊎ Walk s (q + 1) at e
    unfolding Walk children_from
    optional at l h zero t = let z : ◌≡◌ {A = ℕ} 0 1 = cc in absurd (omega arith)
    optional at l h (suc k) t = go (ltb at e) refl t
      where
        go : (b : Bool) → ltb at e ≡ b → pick b (both (ltb at (end_of s at)) (children_from k s (place_after q (family_of (kind_of s at))) (end_of s at) e)) (both (eqb at e) (ends q)) ≡ true → (Child s p at e × ((j : ℕ) × (suc k ≡ suc j) × (children_from j s (place_after q (family_of (kind_of s at))) (end_of s at) e ≡ true))) ⊎ ((j : ℕ) × (children_from j s (q + 1) at e ≡ true))
        go true x u =
            let a = ltb-true at e x in
            let b = ltb-true at (end_of s at) (both_left (ltb at (end_of s at)) _ u) in
            let w = both_right (ltb at (end_of s at)) _ u in
            ⊎_elim
            (λ (y : takes p (family_of (kind_of s at)) ≡ true). inl (record { inside = a; past = b; ends = within k s _ _ e w; taken = y }, (k, refl, w)))
            (λ (n : takes p (family_of (kind_of s at)) ≡ false).
            let m = skips q (family_of (kind_of s at)) p inside is n l h in
            inr (suc k, simp (lt-ltb at e a, lt-ltb at (end_of s at) b) (rw m at w)))
            (decide (takes p (family_of (kind_of s at))))
        go false x u =
            let y = both_right (eqb at e) _ u in
            let z = eqb-true at e (both_left (eqb at e) _ u) in
            let v : ends (q + 1) ≡ true = sym (passes q p inside is (omega arith) (omega arith)) ∙ y in
            inr (suc zero, simp (x, eq-eqb at e z, v))

    -- a part that stands any number of times takes a run of children
    run_of : p % 4 ≡ 2 → (k at : ℕ) → children_from k s q at e ≡ true → (mid : ℕ) × Run s p mid at × Walk s (q + 1) mid e
    unfolding children_from
    run_of m zero at t = let z : ◌≡◌ {A = ℕ} 0 1 = cc in absurd (omega arith)
    run_of m (suc k) at t = go (λ a y. run_of m k a y) (optional at (omega arith) (omega arith) (suc k) t)
      where
        go : ((a : ℕ) → children_from k s q a e ≡ true → (mid : ℕ) × Run s p mid a × Walk s (q + 1) mid e) → (Child s p at e × ((j : ℕ) × (suc k ≡ suc j) × (children_from j s (place_after q (family_of (kind_of s at))) (end_of s at) e ≡ true))) ⊎ Walk s (q + 1) at e → (mid : ℕ) × Run s p mid at × Walk s (q + 1) mid e
        go deeper (inl (c, (j, x, w))) =
            let y : children_from k s q (end_of s at) e ≡ true = subst (λ (n : ℕ). children_from n s q (end_of s at) e ≡ true) (let z : j ≡ k = omega arith in z) (rw (stays q (family_of (kind_of s at)) p inside is c.taken m) at w) in
            let r = deeper (end_of s at) y in
            let l = run-within r.1 in
            let i = c.past in
            (r.0, next {at = at} (record { inside = omega arith; past = c.past; ends = l; taken = c.taken }) r.1, r.2)
        go deeper (inr w) = (at, done refl, w)

  rest_from : (n q at e : ℕ) → ends_by n q ≡ true → Walk s q at e → Rest s (parts_from n q) at e
  unfolding ends_by parts_from Rest Walk
  rest_from zero q at e t w = let z : ◌≡◌ {A = ℕ} 0 1 = cc in absurd (omega arith)
  rest_from (suc n) q at e t w = go (λ a u v. rest_from n (q + 1) a e u v) (eqb (part_at q) 63) refl (both_right (ltb q 230) _ t)
    where
      i : q < 230
      i = ltb-true q 230 (both_left (ltb q 230) _ t)

      go : ((a : ℕ) → ends_by n (q + 1) ≡ true → Walk s (q + 1) a e → Rest s (parts_from n (q + 1)) a e) → (b : Bool) → eqb (part_at q) 63 ≡ b → pick b true (both (leb (part_at q % 4) 2) (ends_by n (q + 1))) ≡ true → Rest s (pick b [] (part_at q ∷ parts_from n (q + 1))) at e
      go deeper true x u = last s q at e (part_at q) i refl (eqb-true (part_at q) 63 x) w
      go deeper false x u =
          let v = both_right (leb (part_at q % 4) 2) _ u in
          choose (part_at q % 4) (leb-true _ _ (both_left (leb (part_at q % 4) 2) _ u))
          (λ z. let f = once s q at e (part_at q) i refl z w in (f.0, deeper (end_of s at) v f.1))
          (λ z.
          ⊎_elim
          (λ (f : Child s (part_at q) at e × ((j : ℕ) × (w.0 ≡ suc j) × (children_from j s (place_after q (family_of (kind_of s at))) (end_of s at) e ≡ true))).
          let m = moves q (family_of (kind_of s at)) (part_at q) i refl f.0.taken (omega arith) in
          inl (f.0, deeper (end_of s at) v (f.1.0, rw m at f.1.2)))
          (λ (f : Walk s (q + 1) at e). inr (deeper at v f))
          (optional q e (part_at q) i refl at (omega arith) (omega arith) w.0 w.1))
          (λ z. let r = run_of q e (part_at q) i refl z w.0 at w.1 in (r.0, r.1, deeper r.0 v r.2))

-- every row ends within five parts, or is that of no kind
row_ok : ℕ → Bool
row_ok k = pick (ends_by 5 (row_of k)) true (eqb (part_at (row_of k)) 60)

rows_ok : every row_ok 46 ≡ true
unfolding every row_ok ends_by part_at
rows_ok = refl

first_part : 60 ≡ part_at 0
unfolding part_at
first_part = refl

row-past : (k : ℕ) → 46 ≤ k → row_of k ≡ 0
row-past k h = simp (le-ltb k 46 h)

-- a row that takes nothing has no children
stuck : (s : List ℕ) (q at e : ℕ) → q < 230 → 60 ≡ part_at q → Walk s q at e → ⊥
stuck s q at e l is w = let c = (once s q at e 60 l is refl w).0 in true≢false (sym c.taken ∙ nothing 60 (family_of (kind_of s at)) refl refl)

-- every node is of a kind
pub no_kind : (s : List ℕ) (p : ℕ) → children_fit s p (end_of s p) ≡ true → 46 ≤ kind_of s p → ⊥
no_kind s p fit h = stuck s 0 (p + 1) (end_of s p) (omega arith) first_part (children-of s p 0 (row-past (kind_of s p) h) fit)

-- the children of node p are the parts of its kind's row
pub shape : (s : List ℕ) (p : ℕ) → children_fit s p (end_of s p) ≡ true → Rest s (parts_of (kind_of s p)) (p + 1) (end_of s p)
unfolding row_ok parts_of
shape s p fit = ⊎_elim (λ (l : kind_of s p < 46). go l (ends_by 5 (row_of (kind_of s p))) refl (every-at row_ok 46 (kind_of s p) rows_ok l)) (λ (h : 46 ≤ kind_of s p). absurd (no_kind s p fit h)) (lt-or-ge (kind_of s p) 46)
  where
    go : kind_of s p < 46 → (b : Bool) → ends_by 5 (row_of (kind_of s p)) ≡ b → pick b true (eqb (part_at (row_of (kind_of s p))) 60) ≡ true → Rest s (parts_from 5 (row_of (kind_of s p))) (p + 1) (end_of s p)
    go l true x u = rest_from s 5 (row_of (kind_of s p)) (p + 1) (end_of s p) x (children-of s p (row_of (kind_of s p)) refl fit)
    go l false x u =
        let r : row_of (kind_of s p) ≡ 5 * kind_of s p = simp (lt-ltb (kind_of s p) 46 l) in
        absurd (stuck s (row_of (kind_of s p)) (p + 1) (end_of s p) (omega arith) (sym (eqb-true _ 60 u)) (children-of s p (row_of (kind_of s p)) refl fit))

-- the kinds that a part takes are those from `low` to `high`
unfoldable pub in_range : ℕ → ℕ → ℕ → ℕ → Bool
in_range p low high k = pick (takes p (family_of k)) (both (leb low k) (leb k high)) true

unfoldable pub ranges : ℕ → ℕ → ℕ → Bool
ranges p low high = pick (takes p 0) false (every (in_range p low high) 46)

-- a child, with the kinds that it can be of
pub record Kid (s : List ℕ) (low high at e : ℕ) : Type 0 where
  pub inside : at < e
  pub past : at < end_of s at
  pub ends : end_of s at ≤ e
  pub from : low ≤ kind_of s at
  pub to : kind_of s at ≤ high

pub kid : {s : List ℕ} {p at e : ℕ} (low high : ℕ) → ranges p low high ≡ true → Child s p at e → Kid s low high at e
unfolding ranges in_range
kid {s} {p} {at} {e} low high t c =
    let u = go (takes p 0) refl t in
    let r : both (leb low (kind_of s at)) (leb (kind_of s at) high) ≡ true =
    ⊎_elim
    (λ (l : kind_of s at < 46). rw c.taken at (every-at (in_range p low high) 46 (kind_of s at) u.1 l))
    (λ (h : 46 ≤ kind_of s at). absurd (true≢false (sym c.taken ∙ ap (takes p) (family-past (kind_of s at) h) ∙ u.0)))
    (lt-or-ge (kind_of s at) 46) in
    record {
      inside = c.inside;
      past = c.past;
      ends = c.ends;
      from = leb-true _ _ (both_left (leb low (kind_of s at)) _ r);
      to = leb-true _ _ (both_right (leb low (kind_of s at)) _ r);
    }
  where
    go : (b : Bool) → takes p 0 ≡ b → pick b false (every (in_range p low high) 46) ≡ true → (takes p 0 ≡ false) × (every (in_range p low high) 46 ≡ true)
    go true x y = absurd (true≢false (sym y))
    go false x y = (x, y)

-- children from `at` up to `mid`, one after the other, with the kinds that they can be of
pub data Kids (s : List ℕ) (low high mid : ℕ) : ℕ → Type 0 where
  none : {at : ℕ} → at ≡ mid → Kids s low high mid at
  some : {at : ℕ} → Kid s low high at mid → Kids s low high mid (end_of s at) → Kids s low high mid at

pub kids : {s : List ℕ} {p mid at : ℕ} (low high : ℕ) → ranges p low high ≡ true → Run s p mid at → Kids s low high mid at
kids low high t (done e) = none e
kids low high t (next c r) = some (kid low high t c) (kids low high t r)

module _ {s : List ℕ} {low high mid at : ℕ} where
  pub kids-within : Kids s low high mid at → at ≤ mid
  kids-within (none e) = omega arith
  kids-within (some c r) = let i = c.inside in omega arith

  -- the next of them, as a cursor finds it
  pub kids-next : Kids s low high mid at → at < mid → Kid s low high at mid × Kids s low high mid (end_of s at)
  kids-next (none e) l = absurd (omega arith)
  kids-next (some c r) l = (c, r)

-- the kinds that pass a test have this row
unfoldable pub same_parts : List ℕ → List ℕ → Bool
same_parts [] [] = true
same_parts [] (b ∷ u) = false
same_parts (a ∷ t) [] = false
same_parts (a ∷ t) (b ∷ u) = both (eqb a b) (same_parts t u)

parts_same : (t u : List ℕ) → same_parts t u ≡ true → t ≡ u
unfolding same_parts
parts_same [] [] e = refl
parts_same [] (b ∷ u) e = absurd (true≢false (sym e))
parts_same (a ∷ t) [] e = absurd (true≢false (sym e))
parts_same (a ∷ t) (b ∷ u) e = let x = eqb-true a b (both_left (eqb a b) _ e) in let y = parts_same t u (both_right (eqb a b) _ e) in cc

unfoldable pub has_row : (ℕ → Bool) → List ℕ → ℕ → Bool
has_row t ps k = pick (t k) (same_parts (parts_of k) ps) true

unfoldable pub have_row : (ℕ → Bool) → List ℕ → Bool
have_row t ps = every (has_row t ps) 46

-- the children of a node whose kind passes a test, where all such kinds have the row ps
pub shape-by : (t : ℕ → Bool) (ps : List ℕ) → have_row t ps ≡ true → (s : List ℕ) (p : ℕ) → t (kind_of s p) ≡ true → children_fit s p (end_of s p) ≡ true → Rest s ps (p + 1) (end_of s p)
unfolding have_row has_row
shape-by t ps have s p is fit =
    ⊎_elim
    (λ (l : kind_of s p < 46).
    let h : same_parts (parts_of (kind_of s p)) ps ≡ true = rw is at (every-at (has_row t ps) 46 (kind_of s p) have l) in
    subst (λ (x : List ℕ). Rest s x (p + 1) (end_of s p)) (parts_same _ _ h) (shape s p fit))
    (λ (h : 46 ≤ kind_of s p). absurd (no_kind s p fit h))
    (lt-or-ge (kind_of s p) 46)
