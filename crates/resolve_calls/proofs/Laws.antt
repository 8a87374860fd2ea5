-- One node's part in 34 and 40: what each test that is passed says of the rule.
use Prim.Native.Nat.{ℕ, ◌+◌, ◌<◌, ◌≤◌}
use mathlib.Core.Path.{◌≡◌, refl, ap, ◌∙◌, sym}
use mathlib.Core.Bool.{Bool, true, false, not}
use mathlib.Core.List.{List}
use native.Mathlib.Omega.{arith}
use borrow.Author.Tests.{eq-eqb, ne_eqb, lt-ltb, le-ltb}
use Rattle.rules.specs.Sweep.{keep, has, either}
use Rattle.rules.specs.Tree.{Tree, call, peels_fields}
use Rattle.rules.specs.Words.{Q_Address, builtins, methods}
use Rattle.rules.specs.Vocabulary.{Rec, rec, only, down, at_bottom, is_ident, is_field}
use Rattle.rules.specs.Model.{is_state_typed}
use Rattle.rules.specs.Resolve.{rule34, is_address, rule40}
use Rattle.records.proofs.Sweep.{has_one, has-not, keep_one, keep-none}
use Rattle.nodes.specs.Shown.{View, In, tree_of}
use Rattle.nodes.proofs.Shapes.{first-in}
use Rattle.resolve_calls.specs.Called.{at34, at40, param_typed}

-- a Call has a callee
pub callee : {part : List ℕ} {b p : ℕ} (W : View part b) → In part b p → (tree_of W).kind p ≡ 43 → In part b (p + 1)
unfolding has
callee W i k = first-in W i 43 k (omega arith) refl

-- a node that is no Call
pub other-call : (t : Tree) (p c : ℕ) (f : ℕ → List Rec) → (t.kind p ≡ 43 → ⊥) → keep (has (t.kind p) call) f p ≡ only false (rec c p 0)
unfolding only
other-call t p c f n = keep-none f p (has-not (t.kind p) 43 n)

module _ (t : Tree) (p : ℕ) (k : t.kind p ≡ 43) where
  at_call : (f : ℕ → List Rec) → keep (has (t.kind p) call) f p ≡ f p
  at_call f = keep_one f p (has_one (t.kind p) 43 k)

  pub builtin-34 : is_ident t builtins (p + 1) ≡ true → at34 p t ≡ only false (rec 34 p 0)
  unfolding rule34
  builtin-34 e = at_call (rule34 t) ∙ ap (λ (b : Bool). only (not (either b (is_field t methods (p + 1)))) (rec 34 p 0)) e

  pub method-34 : {r : Bool} → is_ident t builtins (p + 1) ≡ false → r ≡ is_field t methods (p + 1) → at34 p t ≡ only (not r) (rec 34 p 0)
  unfolding rule34
  method-34 e d = at_call (rule34 t) ∙ ap (λ (b : Bool). only (not (either b (is_field t methods (p + 1)))) (rec 34 p 0)) e ∙ ap (λ (b : Bool). only (not b) (rec 34 p 0)) (sym d)

  pub call-40 : {r : Bool} (e : ℕ) → r ≡ at_bottom t peels_fields (p + 1) (is_address t e) → at40 p t e ≡ only r (rec 40 p 0)
  unfolding rule40
  call-40 e d = at_call (rule40 t e) ∙ ap (λ (b : Bool). only b (rec 40 p 0)) (sym d)

-- where a callee ends
module _ (t : Tree) (e x r : ℕ) (d : r ≡ down t peels_fields x) where
  pub ends-over : t.end x ≤ r → at_bottom t peels_fields x (is_address t e) ≡ false
  unfolding at_bottom
  ends-over h = rw (sym d) (simp (le-ltb r (t.end x) h))

  module _ (l : r < t.end x) where
    pub ends-caller : t.kind r ≡ 36 → at_bottom t peels_fields x (is_address t e) ≡ true
    unfolding at_bottom is_address
    ends-caller k = rw (sym d) (simp (lt-ltb r (t.end x) l, eq-eqb (t.kind r) 36 k))

    pub ends-other : (t.kind r ≡ 36 → ⊥) → (t.kind r ≡ 35 → ⊥) → at_bottom t peels_fields x (is_address t e) ≡ false
    unfolding at_bottom is_address
    ends-other n m = rw (sym d) (simp (lt-ltb r (t.end x) l, ne_eqb (t.kind r) 36 n, ne_eqb (t.kind r) 35 m))

    pub ends-ident : {b : Bool} → t.kind r ≡ 35 → is_state_typed t Q_Address (t.text r) ≡ b → at_bottom t peels_fields x (is_address t e) ≡ either b (param_typed t e (t.text r))
    unfolding at_bottom is_address
    ends-ident k f = rw (sym d) (simp (lt-ltb r (t.end x) l, ne_eqb (t.kind r) 36 (λ q. omega arith), eq-eqb (t.kind r) 35 k, f))
