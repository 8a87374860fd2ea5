-- What a row is: its kind, its length, its Name.
use Prim.Native.Nat.{ℕ, ◌+◌, ◌*◌, ◌<◌, ◌≤◌}
use mathlib.Core.Path.{◌≡◌, refl}
use mathlib.Core.Bool.{true}
use mathlib.Core.List.Memᴰ
use mathlib.Core.List.{List, Memᴰ}
use mathlib.Core.Logic.{◌⊎◌, ⊎_elim}
use native.Mathlib.Omega.{arith}
use Rattle.rules.specs.Sweep.{has}
use Rattle.rules.specs.Tree.{Tree, param, «let», param_let, peels}
use Rattle.rules.specs.Words.{Q_Asset}
use Rattle.rules.specs.Vocabulary.{typed}
use Rattle.rules.specs.Linear.{produces, is_row}
use Rattle.rules.proofs.Reflect.{Tells, tells_both, tells-either, tells-eqb, tells-has, tells-at_bottom}
use Rattle.nodes.specs.Shown.{View, In, Worded, tree_of}
use Rattle.nodes.proofs.Parts.{past, few}
use Rattle.nodes.proofs.Shapes.{within, ends-within}
use Rattle.nodes.proofs.Turns.{named-at}
use Rattle.linear_parts.proofs.Parts.{let-value, callee-in, param_long}
use Rattle.linear_parts.proofs.Lists.{tells-self}

pub tells_row : (t : Tree) (x : ℕ) → Tells (is_row t x) ((Memᴰ (t.kind x) param × (typed t Q_Asset x ≡ true)) ⊎ (Memᴰ (t.kind x) «let» × (produces t x ≡ true)))
unfolding is_row
tells_row t x = tells-either (tells_both (tells-has (t.kind x) param) (tells-self (typed t Q_Asset x))) (tells_both (tells-has (t.kind x) «let») (tells-self (produces t x)))

pub row-kind : (t : Tree) (x : ℕ) → is_row t x ≡ true → has (t.kind x) param_let ≡ true
row-kind t x e =
    ⊎_elim (λ (k : Memᴰ (t.kind x) param × (typed t Q_Asset x ≡ true)). (tells-has (t.kind x) param_let).back (Memᴰ.head (Memᴰ.eq_of_singleton k.0))) (λ (k : Memᴰ (t.kind x) «let» × (produces t x ≡ true)). (tells-has (t.kind x) param_let).back (Memᴰ.tail k.0))
    ((tells_row t x).so e)

produced : (t : Tree) (l : ℕ) → produces t l ≡ true → (v : ℕ) × (l + 2 ≤ v) × (v < t.end (l + 2)) × (t.kind v ≡ 43)
unfolding produces
produced t l e = let f = (tells-at_bottom t peels (l + 2) (λ i. tells_both (tells-eqb (t.kind i) 43) (tells-self _))).so e in (f.0, f.1.from, f.1.inside, f.2.0)

module _ {nodes : List ℕ} {p : ℕ} (W : View nodes 0) (i : In nodes 0 p) (e : is_row (tree_of W) p ≡ true) where
  let-long : (tree_of W).kind p ≡ 25 → produces (tree_of W) p ≡ true → p + 4 ≤ (tree_of W).end p
  let-long k d =
      let f = produced (tree_of W) p d in
      let a = f.1 in
      let h = f.2 in
      let z = (let-value W i k).1 in
      let l : p < f.0 = omega arith in
      let g : f.0 < (tree_of W).end p = omega arith in
      let u = (callee-in W (within W i l g) f.3).1 in
      let v = (ends-within W i l g).1 in
      omega arith

  -- a row's node has at least four nodes, and begins with its Name
  pub row-long : p + 4 ≤ (tree_of W).end p
  row-long =
      ⊎_elim (λ (k : Memᴰ ((tree_of W).kind p) param × (typed (tree_of W) Q_Asset p ≡ true)). param_long W i (Memᴰ.eq_of_singleton k.0)) (λ (k : Memᴰ ((tree_of W).kind p) «let» × (produces (tree_of W) p ≡ true)). let-long (Memᴰ.eq_of_singleton k.0) k.1)
      ((tells_row (tree_of W) p).so e)

  pub row-few : (n : ℕ) → 4 * n < p → n < 511
  row-few n l = let a = row-long in let b = (past W i).1 in let c = (few W).0 in omega arith

  pub row_named : Worded nodes 0 (p + 1)
  unfolding has
  row_named =
      ⊎_elim (λ (k : Memᴰ ((tree_of W).kind p) param × (typed (tree_of W) Q_Asset p ≡ true)). named-at W i (omega arith, refl) (Memᴰ.eq_of_singleton k.0)) (λ (k : Memᴰ ((tree_of W).kind p) «let» × (produces (tree_of W) p ≡ true)). named-at W i (omega arith, refl) (Memᴰ.eq_of_singleton k.0))
      ((tells_row (tree_of W) p).so e)
