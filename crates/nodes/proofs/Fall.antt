-- The walk down an expression, a node at a time.
use Prim.Native.Nat.{ℕ, suc, ◌+◌, ◌-◌, ◌<◌, ◌≤◌}
use mathlib.Core.Path.{◌≡◌, refl, ap, ◌∙◌, sym}
use mathlib.Core.Bool.{Bool, true, false, not}
use mathlib.Core.List.{List}
use native.Mathlib.Omega.{arith}
use native.Mathlib.Numerals.{add-one}
use native.Mathlib.Nat.{sub_self}
use Rattle.rules.specs.Sweep.{first, has}
use Rattle.rules.specs.Vocabulary.{down}
use Rattle.nodes.specs.Shown.{View, tree_of}

pub first-here : (p : ℕ → Bool) (a e : ℕ) → a < e → p a ≡ true → first p a (e - a) ≡ a
unfolding first
first-here p a e l h = let z : e - a ≡ suc (e - suc a) = omega arith in rw (z, h)

first-further : (p : ℕ → Bool) (a e : ℕ) → a < e → p a ≡ false → first p a (e - a) ≡ first p (a + 1) (e - (a + 1))
unfolding first
first-further p a e l h = let z : e - a ≡ suc (e - suc a) = omega arith in rw (z, h, add-one)

pub first-over : (p : ℕ → Bool) (a e : ℕ) → a ≡ e → first p a (e - a) ≡ a
unfolding first
first-over p a e q = rw (q, sub_self e)

-- from r on, the walk from x is still the same
pub record Falling (ks : List ℕ) (part : List ℕ) (b x e r : ℕ) : Type 0 where
  pub low : x ≤ r
  pub high : r ≤ e
  pub rest : (W : View part b) → down (tree_of W) ks x ≡ first (λ j. not (has ((tree_of W).kind j) ks)) r (e - r)

module _ {ks part : List ℕ} {b x e : ℕ} where
  pub falls-from : x ≤ e → ((W : View part b) → e ≡ (tree_of W).end x) → Falling ks part b x e x
  unfolding down
  falls-from l f = record { low = omega arith; high = l; rest = λ W. ap (λ (y : ℕ). first (λ j. not (has ((tree_of W).kind j) ks)) x (y - x)) (sym (f W)) }

  pub falls-on : {r : ℕ} → Falling ks part b x e r → r < e → ((W : View part b) → has ((tree_of W).kind r) ks ≡ true) → Falling ks part b x e (r + 1)
  falls-on {r} F l h = record { low = let i = F.low in omega arith; high = omega arith; rest = λ W. F.rest W ∙ first-further _ r e l (ap not (h W)) }

pub not-true : (b : Bool) → not b ≡ true → b ≡ false
not-true false e = refl
not-true true e = sym e

pub not-false : (b : Bool) → not b ≡ false → b ≡ true
not-false true e = refl
not-false false e = sym e

pub not_so : (b : Bool) → (b ≡ true → ⊥) → b ≡ false
not_so true n = absurd (n refl)
not_so false n = refl
