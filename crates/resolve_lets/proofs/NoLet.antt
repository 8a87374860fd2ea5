-- An entry without a Let has no 26 to 29.
use Prim.Native.Nat.{ℕ, zero, suc, ◌+◌, ◌-◌, ◌<◌, ◌≤◌}
use mathlib.Core.Path.{◌≡◌, refl, ap, ◌∙◌, sym}
use mathlib.Core.Bool.{Bool, true, false}
use mathlib.Core.List.{List, []}
use mathlib.Core.Logic.{⊎_elim}
use native.Mathlib.Nat.{eq-or-lt_of_le}
use native.Mathlib.Omega.{arith}
use Rattle.image.proofs.Decide.{lt-or-ge}
use Rattle.rules.specs.Sweep.{also, some, keep, has}
use Rattle.rules.specs.Standing.{parts}
use Rattle.rules.specs.Tree.{Tree, ident, statement, «let»}
use Rattle.rules.specs.Vocabulary.{Rec, only, below, some_below, declares, named}
use Rattle.rules.specs.Resolve.{rule26, let_rules}
use Rattle.records.proofs.Sweep.{run-empty, keep-none, has-not}
use Rattle.nodes.specs.Shown.{View, In, tree_of}
use Rattle.nodes.proofs.Shapes.{all_in, not_in, no_part}
use Rattle.resolve_lets.specs.Scope.{NoLet, statement_names}

pub no-let : (k : ℕ) → has k statement ≡ false → has k «let» ≡ false
unfolding all_in has
no-let k e = not_in statement k «let» refl e

part-no-let : (k : ℕ) → has k parts ≡ false → has k «let» ≡ false
unfolding all_in has
part-no-let k e = not_in parts k «let» refl e

-- on to the next child
pub no-let-on : {part : List ℕ} {b a p q : ℕ} (W : View part b) → In part b a → 0 < a → a < p → p < (tree_of W).end a → ((j : ℕ) → a < j → j < p → has ((tree_of W).kind j) «let» ≡ false) → ((tree_of W).kind p ≡ 25 → ⊥) → q ≡ (tree_of W).end p
    → (j : ℕ) → a < j → j < q → has ((tree_of W).kind j) «let» ≡ false
no-let-on {a = a} {p = p} W i z l h n f e j g k =
    ⊎_elim (λ (d : j < p). n j g d)
    (λ (d : p ≤ j). ⊎_elim (λ (d : p ≡ j). ap (λ (x : ℕ). has ((tree_of W).kind x) «let») (sym d) ∙ has-not _ 25 f) (λ (d : p < j). part-no-let _ (no_part W i z l h j d (omega arith))) (eq-or-lt_of_le d))
    (lt-or-ge j p)

some-none : (p : ℕ → Bool) (a n : ℕ) → ((i : ℕ) → a ≤ i → i < a + n → p i ≡ false) → some p a n ≡ false
unfolding some
some-none p a zero h = refl
some-none p a (suc n) h = rw (some-none p a n (λ i l g. h i l (omega arith)), h (a + n) (omega arith) (omega arith)) refl

keep-empty : (b : Bool) (f : ℕ → List Rec) (i : ℕ) → f i ≡ [] → keep b f i ≡ []
unfolding keep
keep-empty true f i e = e
keep-empty false f i e = refl

module _ (t : Tree) (e : ℕ) (N : NoLet t e) where
  none-declared : (w : List ℕ) → declares t «let» e w ≡ false
  unfolding declares some_below
  none-declared w = some-none _ (suc e) (t.end e - suc e) (λ i l h. ap (λ (b : Bool). also b (named t w) i) (N i (omega arith) (omega arith)))

  no-26 : (s i : ℕ) → rule26 t e s i ≡ []
  unfolding rule26 only
  no-26 s i = rw (none-declared (t.text i)) refl

  pub no-let-rules : [] ≡ below t statement e (statement_names t e)
  unfolding below
  no-let-rules =
      sym (run-empty _ (suc e) (t.end e - suc e) (λ s l h. keep-empty _ (statement_names t e) s
      (rw (run-empty (λ i. keep (has (t.kind i) ident) (rule26 t e s) i) (suc s) (t.end s - suc s) (λ i g k. keep-empty _ (rule26 t e s) i (no-26 s i)), keep-none (let_rules t e) s (N s (omega arith) (omega arith))) refl)))
