-- The children of a Let, a Call and a Param, where they stand; and a part of an entry.
use Prim.Native.Nat.{ℕ, ◌+◌, ◌<◌, ◌≤◌}
use mathlib.Core.Path.{◌≡◌, refl, ap, ◌∙◌, sym}
use mathlib.Core.Bool.{Bool, true, false}
use mathlib.Core.List.{List}
use native.Mathlib.Omega.{arith}
use borrow.Author.Tests.{eqb-true, eq-eqb, ltb-true, ltb-false}
use lib.Dec.{eqb, ltb}
use lib.ListN.{get_or-eq_default}
use Rattle.image.specs.Pick.{pick, every}
use Rattle.image.specs.Node.{end_of}
use Rattle.image.specs.Digits.{families, family_of, part_at, row_of}
use Rattle.image.specs.Tree.{children_fit}
use Rattle.image.specs.Admit.{nodes_of}
use Rattle.image.proofs.Every.{every-at}
use Rattle.image.proofs.Shape.{two, first_of, once, last, children-of, family-is, name-kind}
use Rattle.rules.specs.Sweep.{has}
use Rattle.nodes.specs.Shown.{View, In, Worded, tree_of}
use Rattle.nodes.proofs.Parts.{inside, there, past, formed}
use Rattle.nodes.proofs.Shapes.{first-inside, within}
use Rattle.nodes.proofs.Turns.{named-at}
use Rattle.linear_parts.specs.declared.Words.{Words}
use Rattle.linear_parts.specs.Parts.{PartAt}

-- the one kind of the family of types
type-test : ℕ → Bool
type-test k = pick (eqb (family_of k) 8) (eqb k 11) true

type-all : every type-test 46 ≡ true
unfolding every type-test family_of
type-all = refl

type-kind : (k : ℕ) → family_of k ≡ 8 → k ≡ 11
unfolding type-test family_of
type-kind k e = go (ltb k 46) refl
  where
    go : (b : Bool) → ltb k 46 ≡ b → k ≡ 11
    go true l = let t : pick (eqb (family_of k) 8) (eqb k 11) true ≡ true = every-at type-test 46 k type-all (ltb-true k 46 l) in eqb-true k 11 (rw (eq-eqb _ _ e) at t)
    go false l = let z = get_or-eq_default families 0 (ltb-false k 46 l) in absurd (omega arith)

module _ {part : List ℕ} {b p : ℕ} (W : View part b) (i : In part b p) where
  fit : children_fit (nodes_of W.image) p (end_of (nodes_of W.image) p) ≡ true
  fit = let u = inside W i in let v = W.shown.high in ((formed W).node p (omega arith)).children

  name_ends : (tree_of W).kind p ≡ 23 → (tree_of W).end p ≡ p + 1
  unfolding part_at
  name_ends k = sym (last (nodes_of W.image) 115 (p + 1) ((tree_of W).end p) 63 (omega arith) refl refl (children-of (nodes_of W.image) p 115 (ap row_of k) fit))

module _ {part : List ℕ} {b p : ℕ} (W : View part b) (i : In part b p) where
  -- the value of a Let, past its Name
  pub let-value : (tree_of W).kind p ≡ 25 → In part b (p + 2) × ((tree_of W).end (p + 2) ≡ (tree_of W).end p)
  unfolding part_at
  let-value k =
      let t = two (nodes_of W.image) p 125 68 816 (ap row_of k) (fit W i) (omega arith) refl refl refl refl refl in
      let h = past W i in
      let w = i.0 in
      let f = t.first.inside in
      let j = there W {p = p + 1} (omega arith) (omega arith) in
      let e = name_ends W j (name-kind _ (family-is 68 _ 1 refl refl t.first.taken)) in
      let d : (tree_of W).end (p + 1) ≡ p + 2 = omega arith in
      let g = t.second.inside in
      (there W (omega arith) (omega arith), ap (tree_of W).end (sym d) ∙ t.whole)

  -- the callee of a Call
  pub callee-in : (tree_of W).kind p ≡ 43 → In part b (p + 1) × (p + 1 < (tree_of W).end p)
  unfolding has
  callee-in k = let f = first-inside W i 43 k (omega arith) refl in (within W i (omega arith) f, f)

  -- the Type of a Param, past its Name, and that Type's Name
  pub param-type : (tree_of W).kind p ≡ 10 → In part b (p + 2) × ((tree_of W).kind (p + 2) ≡ 11) × (p + 4 ≤ (tree_of W).end p)
  unfolding part_at
  param-type k =
      let f = first_of (nodes_of W.image) p 50 68 (ap row_of k) (fit W i) (omega arith) refl refl in
      let g = once (nodes_of W.image) 51 ((tree_of W).end (p + 1)) ((tree_of W).end p) 544 (omega arith) refl refl f.1 in
      let h = past W i in
      let w = i.0 in
      let x = f.0.inside in
      let j = there W {p = p + 1} (omega arith) (omega arith) in
      let e = name_ends W j (name-kind _ (family-is 68 _ 1 refl refl f.0.taken)) in
      let d : (tree_of W).end (p + 1) ≡ p + 2 = omega arith in
      let y = g.0.inside in
      let t : (tree_of W).kind (p + 2) ≡ 11 = ap (tree_of W).kind (sym d) ∙ type-kind _ (family-is 544 _ 8 refl refl g.0.taken) in
      let c = there W {p = p + 2} (omega arith) (omega arith) in
      let z = (first_of (nodes_of W.image) (p + 2) 55 68 (ap row_of t) (fit W c) (omega arith) refl refl).0.inside in
      let u = ap (tree_of W).end d in
      let v = g.0.ends in
      (c, t, omega arith)

  pub param_long : (tree_of W).kind p ≡ 10 → p + 4 ≤ (tree_of W).end p
  param_long k = (param-type k).2

  pub type_name : (tree_of W).kind p ≡ 10 → Worded part b (p + 3)
  unfolding has
  type_name k = let f = param-type k in let d : p + 2 + 1 ≡ p + 3 = omega arith in rw d at (named-at W f.0 (omega arith, refl) f.1)

-- part p of an entry stands in it
pub part_in : {nodes : List ℕ} {words : Words} {p : ℕ} {first : List ℕ} → PartAt nodes words p first → In nodes 0 p
part_in T = within T.known.view T.here T.after T.inside
