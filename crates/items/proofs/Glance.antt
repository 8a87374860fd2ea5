-- What a walk over the items of a contract has met of one kind: none before the item at hand, or one.
use Prim.Native.Nat.{ℕ, ◌<◌, ◌≤◌}
use mathlib.Core.Path.{◌≡◌, refl, ap, ◌∙◌, sym}
use mathlib.Core.Bool.{Bool, true, false, true≢false}
use mathlib.Core.List.{List, [], ◌∷◌}
use mathlib.Core.Logic.{⊎_elim}
use native.Mathlib.Nat.{eq-or-lt_of_le}
use native.Mathlib.Omega.{arith}
use lib.Dec.{eqb}
use Rattle.image.proofs.Decide.{lt-or-ge}
use Rattle.rules.specs.Sweep.{either, has}
use Rattle.rules.specs.Tree.{Tree}
use Rattle.rules.specs.Standing.{all_items}
use Rattle.nodes.specs.Shown.{View, In, tree_of}
use Rattle.nodes.specs.Items.{NoneUpTo, SomeUpTo}
use Rattle.nodes.proofs.Shapes.{all_in, one_in, skips-items}

neither : (a b : Bool) → either a b ≡ false → (a ≡ false) × (b ≡ false)
neither true b e = absurd (true≢false e)
neither false b e = (refl, e)

-- past an item that is of none of these kinds
none-past : (ks : List ℕ) → all_in ks all_items ≡ true → {part : List ℕ} {b p q : ℕ} (W : View part b) → In part b p → 0 < p → NoneUpTo (tree_of W) ks p → has ((tree_of W).kind p) ks ≡ false → q ≡ (tree_of W).end p → NoneUpTo (tree_of W) ks q
none-past ks a {p = p} W i z n h e j l g =
    ⊎_elim (n j l)
    (λ (r : p ≤ j). ⊎_elim (λ (d : p ≡ j). ap (λ (x : ℕ). has ((tree_of W).kind x) ks) (sym d) ∙ h) (λ (d : p < j). skips-items ks a W i z e j d g) (eq-or-lt_of_le r))
    (lt-or-ge j p)

-- the item p, of kind x, is taken into account: where none of kind k is found yet, none stands before the next one
pub glanced : (k : ℕ) → has k all_items ≡ true → {part : List ℕ} {p q x : ℕ} (was : Bool) {is : Bool} → is ≡ either (eqb x k) was → In part 0 p → 0 < p → (W : View part 0) → x ≡ (tree_of W).kind p → (was ≡ false → NoneUpTo (tree_of W) (k ∷ []) p) → q ≡ (tree_of W).end p → is ≡ false → NoneUpTo (tree_of W) (k ∷ []) q
unfolding has
glanced k a {p = p} {x = x} was d i z W e n f g =
    let h = neither (eqb x k) was (sym d ∙ g) in
    none-past (k ∷ []) (one_in k all_items a) W i z (n h.1) (ap (λ (y : ℕ). has y (k ∷ [])) (sym e) ∙ rw h.0) f

-- where one is found, it is this one, or it stood before
pub glanced-some : (k : ℕ) {part : List ℕ} {p q x : ℕ} (was : Bool) {is : Bool} → is ≡ either (eqb x k) was → 0 < p → (W : View part 0) → x ≡ (tree_of W).kind p → (was ≡ true → SomeUpTo (tree_of W) (k ∷ []) p) → p < q → is ≡ true → SomeUpTo (tree_of W) (k ∷ []) q
unfolding has
glanced-some k {p = p} {q = q} {x = x} was d z W e n l g = go (eqb x k) refl (sym d ∙ g)
  where
    go : (b : Bool) → eqb x k ≡ b → either b was ≡ true → SomeUpTo (tree_of W) (k ∷ []) q
    go true f h = (p, z, l, ap (λ (y : ℕ). has y (k ∷ [])) (sym e) ∙ rw f)
    go false f h = let m = n h in let i = m.0 in let a = m.2 in (m.0, m.1, omega arith, m.3)

-- what stands before a node of the contract stands before its end
pub within_end : (t : Tree) (ks : List ℕ) {p to : ℕ} → to ≡ t.end 0 → p ≤ to → SomeUpTo t ks p → SomeUpTo t ks (t.end 0)
within_end t ks e l m = let i = m.0 in let a = m.2 in (m.0, m.1, omega arith, m.3)
