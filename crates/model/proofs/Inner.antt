-- The name inside a `Q_Asset`: where it stands, and which it is.
use Prim.Native.Nat.{ℕ, ◌+◌, ◌<◌}
use mathlib.Core.Path.{◌≡◌, refl, ap, ◌∙◌, sym, subst}
use mathlib.Core.Bool.{Bool, false}
use mathlib.Core.List.Memᴰ
use mathlib.Core.List.{List, Memᴰ}
use native.Mathlib.Omega.{arith}
use Rattle.rules.specs.Sweep.{also, has, same}
use Rattle.rules.specs.Tree.{Tree, type}
use Rattle.rules.specs.Model.{Inner, inner}
use Rattle.rules.proofs.Reflect.{Tells, tells_as, tells-also, tells-has, tells-same, one-fact}
use Rattle.rules.proofs.Model.{tells-inner}
use Rattle.nodes.specs.Shown.{View, In, Worded, tree_of}
use Rattle.nodes.specs.First.{NameFirst}
use Rattle.records.proofs.Sweep.{has_one}
use Rattle.model.specs.Assets.{Assets, Inside, inside_at}
use Rattle.nodes.proofs.Shapes.{within, named-first}
use Rattle.nodes.proofs.Turns.{named-at}
use Rattle.nodes.proofs.Fall.{not_so}

-- the Name of the type y, and that of its first argument
module _ {part : List ℕ} {b y : ℕ} (W : View part b) (i : In part b y) where
  pub type_name : (tree_of W).kind y ≡ 11 → Worded part b (y + 1)
  unfolding has
  type_name k = named-at W i (omega arith, refl) k

  pub argument-name : y + 2 < (tree_of W).end y → (tree_of W).kind (y + 2) ≡ 11 → In part b (y + 3) × ((tree_of W).kind (y + 3) ≡ 23)
  unfolding has
  argument-name l k = let d : y + 2 + 1 ≡ y + 3 = omega arith in rw d at (named-first W (within W i (omega arith) l) (subst NameFirst (sym k) (omega arith, refl)))

module _ (t : Tree) (y : ℕ) where
  tells-here : (w : List ℕ) → Tells (also (has (t.kind y) type) (inner t w) y) (Memᴰ (t.kind y) type × Inner t w y)
  tells-here w = tells-also (inner t w) y (tells-has (t.kind y) type) (tells-inner t w y)

module _ {nodes : List ℕ} {asset y : ℕ} (A : Assets nodes asset) where
  -- no name is inside
  pub none_inside : ((w : List ℕ) → (tree_of A.view).kind y ≡ 11 → Inner (tree_of A.view) w y → ⊥) → Inside A y 0
  none_inside n = record {
    under = omega arith;
    none = λ e w. not_so _ (λ d. let h = (tells-here (tree_of A.view) y w).so d in n w (Memᴰ.eq_of_singleton h.0) h.1);
    here = λ l. absurd (omega arith);
    name = λ l. absurd (omega arith);
    is = λ l. absurd (omega arith);
  }

  -- the Name of the first argument is
  pub one_inside : In nodes 0 y → (tree_of A.view).kind y ≡ 11 → Inner (tree_of A.view) ((tree_of A.view).text (y + 3)) y → Inside A y (y + 3)
  one_inside i k I =
      let n = argument-name A.view i I.has_argument I.is_type in
      let u = n.0.2 in
      record {
        under = u;
        none = λ e. absurd (omega arith);
        here = λ l. n.0;
        name = λ l. n.1;
        is = λ l w. sym (one-fact (tells_as (λ e. (Memᴰ.head k, is e)) (λ h. h.1.is_named) (tells-same ((tree_of A.view).text (y + 3)) w)) (tells-here (tree_of A.view) y w));
      }
    where
      is : {w : List ℕ} → (tree_of A.view).text (y + 3) ≡ w → Inner (tree_of A.view) w y
      is e = record { is_asset = I.is_asset; has_argument = I.has_argument; is_type = I.is_type; is_named = e }

  -- of a Type, without the test of its kind
  module _ {r : ℕ} (k : (tree_of A.view).kind y ≡ 11) (I : Inside A y r) (w : List ℕ) where
    of-type : inside_at y A w ≡ inner (tree_of A.view) w y
    of-type = ap (λ (b : Bool). also b (inner (tree_of A.view) w) y) (has_one ((tree_of A.view).kind y) 11 k)

    pub inner-none : r ≡ 0 → inner (tree_of A.view) w y ≡ false
    inner-none e = sym of-type ∙ I.none e w

    pub inner-one : 0 < r → inner (tree_of A.view) w y ≡ same ((tree_of A.view).text r) w
    inner-one l = sym of-type ∙ I.is l w
