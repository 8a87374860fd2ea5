-- What stands where in a lent part: the Name that a node begins with, the nodes of a Field and a Call, and what a walk by `next` leaves out.
use Prim.Native.Nat.{ℕ, ◌+◌, ◌*◌, ◌%◌, ◌<◌, ◌≤◌}
use mathlib.Core.Path.{◌≡◌, refl, ap, ◌∙◌, sym}
use mathlib.Core.Bool.{Bool, true, false, true≢false}
use mathlib.Core.List.{List, [], ◌∷◌}
use native.Mathlib.Omega.{arith}
use borrow.Author.Tests.{eqb-true, lt-ltb}
use lib.Dec.{eqb}
use Rattle.image.specs.Pick.{pick, both, every}
use Rattle.image.specs.Digits.{part_at, row_of}
use Rattle.image.specs.Admit.{nodes_of, node_count}
use Rattle.image.proofs.Every.{every-at, both_left, both_right}
use Rattle.image.proofs.Shape.{Child, first_of, family-is, name-kind, field_at}
use Rattle.image.proofs.Nest.{nests}
use Rattle.rules.specs.Sweep.{has, either}
use Rattle.rules.specs.Standing.{all_items, parts}
use Rattle.rules.proofs.Admitted.{no-item-below, no-part-below}
use Rattle.nodes.specs.Shown.{View, In, tree_of}
use Rattle.nodes.specs.First.{name_first, NameFirst}
use Rattle.nodes.proofs.Parts.{inside, there, past, formed}

-- the rows of some kinds begin with one part
begins : List ℕ → ℕ → ℕ → Bool
begins ks a k = pick (has k ks) (eqb (part_at (5 * k)) a) true

names-begin : every (begins name_first 68) 46 ≡ true
unfolding every begins has part_at
names-begin = refl

-- Invariant, Limits, Denies, Guard, Assign, Stmt::Expr, Unary, Binary, Field, Call, Checked, Wrapping
abbrev pub expression_first : List ℕ
expression_first = 8 ∷ 19 ∷ 20 ∷ 24 ∷ 27 ∷ 28 ∷ 40 ∷ 41 ∷ 42 ∷ 43 ∷ 44 ∷ 45 ∷ []

expressions-begin : every (begins expression_first 816) 46 ≡ true
unfolding every begins has part_at
expressions-begin = refl

module _ {part : List ℕ} {b p : ℕ} (W : View part b) (i : In part b p) where
  child : (ks : List ℕ) (a : ℕ) → every (begins ks a) 46 ≡ true → a % 4 ≡ 0 → (tree_of W).kind p < 46 → has ((tree_of W).kind p) ks ≡ true → Child (nodes_of W.image) a (p + 1) ((tree_of W).end p)
  unfolding begins
  child ks a all m l h =
      let u = inside W i in
      let v = W.shown.high in
      let N = (formed W).node p (omega arith) in
      let t : pick (has ((tree_of W).kind p) ks) (eqb (part_at (5 * (tree_of W).kind p)) a) true ≡ true = every-at (begins ks a) 46 ((tree_of W).kind p) all l in
      let e = eqb-true _ _ (rw h at t) in
      let r : row_of ((tree_of W).kind p) ≡ 5 * (tree_of W).kind p = simp (lt-ltb ((tree_of W).kind p) 46 l) in
      (first_of (nodes_of W.image) p (5 * (tree_of W).kind p) a r N.children (omega arith) (sym e) m).0

  next-in : p + 1 < (tree_of W).end p → In part b (p + 1)
  next-in g = let h = (past W i).1 in let w = i.0 in there W (omega arith) (omega arith)

  -- a node that begins with its Name
  pub named-first : NameFirst ((tree_of W).kind p) → In part b (p + 1) × ((tree_of W).kind (p + 1) ≡ 23)
  named-first k = let f = child name_first 68 names-begin refl k.0 k.1 in (next-in f.inside, name-kind _ (family-is 68 _ 1 refl refl f.taken))

  pub name-inside : NameFirst ((tree_of W).kind p) → p + 1 < (tree_of W).end p
  name-inside k = (child name_first 68 names-begin refl k.0 k.1).inside

  -- a node that begins with an expression
  pub first-inside : (k : ℕ) → (tree_of W).kind p ≡ k → k < 46 → has k expression_first ≡ true → p + 1 < (tree_of W).end p
  first-inside k e l h = (child expression_first 816 expressions-begin refl (omega arith) (ap (λ (x : ℕ). has x expression_first) e ∙ h)).inside

  pub first-in : (k : ℕ) → (tree_of W).kind p ≡ k → k < 46 → has k expression_first ≡ true → In part b (p + 1)
  first-in k e l h = next-in (first-inside k e l h)

  -- the Name of a Field, past its base
  pub field-name : (tree_of W).kind p ≡ 42 → In part b (p + 1) × In part b ((tree_of W).end (p + 1)) × ((tree_of W).kind ((tree_of W).end (p + 1)) ≡ 23)
  field-name k =
      let u = inside W i in
      let v = W.shown.high in
      let f = field_at (nodes_of W.image) p k ((formed W).node p (omega arith)).children in
      let x = f.base.inside in
      let y = f.base.past in
      let z = f.name_node.inside in
      let h = (past W i).1 in
      let w = i.0 in
      (there W (omega arith) (omega arith), there W (omega arith) (omega arith), f.name_is)

  -- its base, which is p + 1
  pub field-base : (x : ℕ) → p ≡ x + 1 → (tree_of W).kind p ≡ 42 → In part b (x + 2)
  field-base x e k = let z : p + 1 ≡ x + 2 = omega arith in rw z at (field-name k).0

  -- a node within p's range stands in the part too
  pub within : {q : ℕ} → p < q → q < (tree_of W).end p → In part b q
  within l h = let g = (past W i).1 in let w = i.0 in there W (omega arith) (omega arith)

  pub within-or : {q : ℕ} → p ≤ q → q < (tree_of W).end p → In part b q
  within-or l h = let g = (past W i).1 in let w = i.0 in there W (omega arith) (omega arith)

  pub ends-within : {q : ℕ} → p < q → q < (tree_of W).end p → (q < (tree_of W).end q) × ((tree_of W).end q ≤ (tree_of W).end p)
  ends-within {q} l h =
      let u = inside W i in
      let v = W.shown.high in
      ((past W (within l h)).0, nests (nodes_of W.image) (node_count W.image) (formed W) p q (omega arith) l h)

-- a walk from child to child leaves out no item of the contract, and no part of an item
module _ {part : List ℕ} {b : ℕ} (W : View part b) where
  pub no_item : {p : ℕ} → In part b p → 0 < p → (j : ℕ) → p < j → j < (tree_of W).end p → has ((tree_of W).kind j) all_items ≡ false
  no_item {p} i z j l h = let u = inside W i in let v = W.shown.high in no-item-below W.image W.shown.admitted p j z (omega arith) l h

  pub no_part : {a p : ℕ} → In part b a → 0 < a → a < p → p < (tree_of W).end a → (j : ℕ) → p < j → j < (tree_of W).end p → has ((tree_of W).kind j) parts ≡ false
  no_part {a} {p} i z g k j l h =
      let u = inside W i in
      let v = W.shown.high in
      let y = inside W (within W i g k) in
      no-part-below W.image W.shown.admitted a p j z (omega arith) g k (omega arith) l h

-- kinds that are among these: none of them is left out either
unfoldable pub all_in : List ℕ → List ℕ → Bool
all_in [] l = true
all_in (j ∷ ks) l = both (has j l) (all_in ks l)

pub not_in : (l : List ℕ) (k : ℕ) (ks : List ℕ) → all_in ks l ≡ true → has k l ≡ false → has k ks ≡ false
unfolding all_in has
not_in l k [] a e = refl
not_in l k (j ∷ ks) a e = go (eqb k j) refl (not_in l k ks (both_right (has j l) _ a) e)
  where
    go : (x : Bool) → eqb k j ≡ x → has k ks ≡ false → either x (has k ks) ≡ false
    go false d f = f
    go true d f = absurd (true≢false (sym (both_left (has j l) _ a) ∙ ap (λ (x : ℕ). has x l) (sym (eqb-true k j d)) ∙ e))

pub one_in : (k : ℕ) (l : List ℕ) → has k l ≡ true → all_in (k ∷ []) l ≡ true
unfolding all_in
one_in k l e = rw e

-- kinds that are items, or parts: a walk from child to child leaves out none of them
pub skips-items : (ks : List ℕ) → all_in ks all_items ≡ true → {part : List ℕ} {b p q : ℕ} (W : View part b) → In part b p → 0 < p → q ≡ (tree_of W).end p → (j : ℕ) → p < j → j < q → has ((tree_of W).kind j) ks ≡ false
skips-items ks a W i z e j l h = not_in all_items ((tree_of W).kind j) ks a (no_item W i z j l (omega arith))

pub skips-parts : (ks : List ℕ) → all_in ks parts ≡ true → {part : List ℕ} {b p q r : ℕ} (W : View part b) → In part b p → 0 < p → p < q → q < (tree_of W).end p → r ≡ (tree_of W).end q → (j : ℕ) → q < j → j < r → has ((tree_of W).kind j) ks ≡ false
skips-parts ks a W i z g k e j l h = not_in parts ((tree_of W).kind j) ks a (no_part W i z g k j l (omega arith))
