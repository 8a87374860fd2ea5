-- The row that a place asks about: there is one at most. A row with two marks has no occurrence.
use Prim.Native.Nat.{ℕ, ◌+◌, ◌<◌, ◌≤◌}
use mathlib.Core.Path.{◌≡◌, refl, ap, ◌∙◌}
use mathlib.Core.List.Memᴰ
use mathlib.Core.List.{List, [], ◌∷◌}
use mathlib.Core.Logic.{inl, ⊎_elim}
use native.Mathlib.Omega.{arith}
use lib.ListN.{length}
use Rattle.image.specs.Admit.{refusal, node_count}
use Rattle.image.proofs.Decide.{lt-or-ge}
use Rattle.image.proofs.Given.{given}
use Rattle.rules.specs.Tree.{Tree, tree, entry}
use Rattle.rules.specs.Vocabulary.{Below, AllOf}
use Rattle.rules.specs.Linear.{Row, Mark, Use}
use Rattle.rules.specs.Standing.{Formed}
use Rattle.rules.proofs.Linear.{let-place, param-place}
use Rattle.rules.proofs.Admitted.{admitted}
use Rattle.rules.proofs.Linear.{row_below}
use Rattle.rules.proofs.Ranges.{deep, ends-in, item-ends, items-follow, parts-follow}
use Rattle.reasons.specs.Reasons.{TrackedAt}

module _ (t : Tree) where
  module _ (F : Formed t) where
    -- where a row's place stands: at the row or behind it, before the row's end
    record At (e x p : ℕ) : Type 0 where
      after : e < x
      from : x ≤ p
      near : p ≤ x + 1
      before : p < t.end x
      inside : p < t.end e

    at : (p e x : ℕ) → TrackedAt t p e x → At e x p
    at p e x r =
        ⊎_elim
        (λ a.
        let b = a.0 in
        let d = param-place t x (λ k. let n : t.kind x ≡ 10 = Memᴰ.eq_of_singleton b.kind in omega arith) in
        let l = F.param_long x (deep t F r.0 b) in
        let n = ends-in t F r.0 b in
        let q = r.2 in
        record { after = b.after; from = omega arith; near = omega arith; before = omega arith; inside = omega arith })
        (λ a.
        let b = a.0 in
        let d = let-place t x (Memᴰ.eq_of_singleton b.kind) in
        let w = deep t F r.0 b in
        let g = w.after in
        let l = F.past x (omega arith) w.inside in
        let n = ends-in t F r.0 b in
        let q = r.2 in
        record { after = b.after; from = omega arith; near = omega arith; before = omega arith; inside = omega arith })
        r.1

    -- no entry holds a place of an earlier one, no row that of an earlier one
    entry-once : (p e f x y : ℕ) → TrackedAt t p e x → TrackedAt t p f y → e < f → ⊥
    entry-once p e f x y a b l =
        let u = at p e x a in
        let v = at p f y b in
        let g = items-follow t F refl a.0 b.0 l in
        let m = u.inside in
        let n = v.after in
        let o = v.from in
        omega arith

    row-once : (p e x y : ℕ) → TrackedAt t p e x → TrackedAt t p e y → x < y → ⊥
    row-once p e x y a b l =
        let u = at p e x a in
        let v = at p e y b in
        let g = parts-follow t F refl a.0 (row_below t e x a.1) (row_below t e y b.1) l in
        let m = u.before in
        let o = v.from in
        omega arith

-- the entry of a row holds its place, and no other does
module _ (s : List ℕ) (p e x : ℕ) (z : refusal s ≡ 0) (a : TrackedAt (tree s) p e x) where
  pub holds-place : (e < p) × (p < (tree s).end e)
  holds-place = let u = at (tree s) (admitted s z) p e x a in let f = u.after in let g = u.from in (omega arith, u.inside)

  -- so it is a node, and not the contract
  pub a-node : (0 < p) × (p < node_count s)
  a-node =
      let m = holds-place.0 in
      let n = holds-place.1 in
      let r = (given s z).nodes.root_end in
      let l = item-ends (tree s) (admitted s z) a.0 in
      (omega arith, omega arith)

  pub held_by : (f : ℕ) → Below (tree s) entry 0 f → f < p → p < (tree s).end f → e ≡ f
  held_by f F h k =
      let m = holds-place.0 in
      let n = holds-place.1 in
      let l : e < f → ⊥ = λ d. let g = items-follow (tree s) (admitted s z) refl a.0 F d in omega arith in
      let r : f < e → ⊥ = λ d. let g = items-follow (tree s) (admitted s z) refl F a.0 d in omega arith in
      omega (arith, l, r)

-- a place has one row at most
pub one_row : (s : List ℕ) (p e f x y : ℕ) → refusal s ≡ 0 → TrackedAt (tree s) p e x → TrackedAt (tree s) p f y → (e ≡ f) × (x ≡ y)
one_row s p e f x y z a b =
    let t = tree s in
    let F = admitted s z in
    let l = entry-once t F p e f x y a b in
    let m = entry-once t F p f e y x b a in
    let d : e ≡ f = omega (arith, l, m) in
    let c : TrackedAt t p e y = rw d b in
    let i = row-once t F p e x y a c in
    let j = row-once t F p e y x c a in
    (d, omega (arith, i, j))

-- marks go to the first row of a name, occurrences to the last, and each parameter that gives a mark is a row of its name
pub marked_twice : (t : Tree) (m : List ℕ) (e x i : ℕ) → AllOf (Mark t e x) m → 1 < length m → Use t e x i → ⊥
marked_twice t [] e x i a l u = omega arith
marked_twice t (y ∷ []) e x i a l u = omega arith
marked_twice t (y ∷ z ∷ m) e x i a l u =
    let h = a.rising.0 z (Memᴰ.head refl) in
    let Y = a.sound y (Memᴰ.head refl) in
    let Z = a.sound z (Memᴰ.tail (Memᴰ.head refl)) in
    ⊎_elim (λ (b : y < x). Y.2 y b (row y Y) Y.1) (λ (b : x ≤ y). u.2 z (omega arith) (row z Z) Z.1) (lt-or-ge y x)
  where
    row : (v : ℕ) → Mark t e x v → Row t e v
    row v M = let q : v + 3 ≡ v + 2 + 1 = omega arith in inl (M.0.0, ap t.text q ∙ M.0.1.1.1.is_asset)
