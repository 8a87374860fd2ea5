-- One node's part in the pass: what each test that is passed says of the rules 50 and 51.
use Prim.Native.Nat.{ℕ, ◌+◌, ◌<◌, ◌≤◌}
use mathlib.Core.Path.{◌≡◌, ap, ◌∙◌, sym}
use mathlib.Core.Bool.{Bool, true, false, not}
use mathlib.Core.List.{List, append-nil}
use mathlib.Core.Logic.{inr}
use native.Mathlib.Omega.{arith}
use borrow.Author.Tests.{eq-eqb, ne_eqb, le-ltb, lt-ltb}
use Rattle.image.specs.Pick.{both}
use Rattle.rules.specs.Tree.{Tree, peels_fields}
use Rattle.rules.specs.Vocabulary.{rec, only, down, at_bottom, is_field}
use Rattle.rules.specs.Words.{writers}
use Rattle.rules.specs.Model.{is_state}
use Rattle.rules.specs.Access.{rule50, is_write, is_unwritten, assign_rule, call_rule}
use Rattle.records.proofs.Sweep.{has_one, has-not, keep_one, keep-none}
use Rattle.nodes.specs.Shown.{View, In, Worded, tree_of}
use Rattle.nodes.proofs.Shapes.{within-or}
use Rattle.access.specs.Seen.{written_in, at50, at51}

module _ (t : Tree) (p : ℕ) where
  pub other-50 : (t.kind p ≡ 35 → ⊥) → at50 p t ≡ only false (rec 50 p 0)
  unfolding only
  other-50 n = keep-none (rule50 t) p (has-not (t.kind p) 35 n)

  pub ident-50 : {r : Bool} → t.kind p ≡ 35 → r ≡ is_state t (t.text p) → at50 p t ≡ only (not r) (rec 50 p 0)
  unfolding rule50
  ident-50 k e = keep_one (rule50 t) p (has_one (t.kind p) 35 k) ∙ ap (λ (b : Bool). only (not b) (rec 50 p 0)) (sym e)

-- 51 at a node: neither, an Assign, a Call
module _ (t : Tree) (e p : ℕ) where
  pub other-51 : (t.kind p ≡ 27 → ⊥) → (t.kind p ≡ 43 → ⊥) → at51 p t e ≡ only false (rec 51 p 0)
  unfolding only
  other-51 m n = rw (keep-none (assign_rule t e) p (has-not (t.kind p) 27 m)) (keep-none (call_rule t e) p (has-not (t.kind p) 43 n))

  pub assign-51 : {r : Bool} → t.kind p ≡ 27 → r ≡ is_write t e (p + 1) → at51 p t e ≡ only r (rec 51 p 0)
  unfolding assign_rule
  assign-51 {r} k d =
      rw (keep_one (assign_rule t e) p (has_one (t.kind p) 27 k), keep-none (call_rule t e) p (has-not (t.kind p) 43 (λ x. omega arith)))
      (append-nil (only (is_write t e (p + 1)) (rec 51 p 0)) ∙ ap (λ (b : Bool). only b (rec 51 p 0)) (sym d))

  module _ (k : t.kind p ≡ 43) where
    call_at : at51 p t e ≡ only (both (is_field t writers (p + 1)) (is_write t e (p + 2))) (rec 51 p 0)
    unfolding call_rule
    call_at = rw (keep-none (assign_rule t e) p (has-not (t.kind p) 27 (λ x. omega arith))) (keep_one (call_rule t e) p (has_one (t.kind p) 43 k))

    pub call-other : is_field t writers (p + 1) ≡ false → at51 p t e ≡ only false (rec 51 p 0)
    call-other f = call_at ∙ ap (λ (b : Bool). only (both b (is_write t e (p + 2))) (rec 51 p 0)) f

    pub call-51 : {r : Bool} → is_field t writers (p + 1) ≡ true → r ≡ is_write t e (p + 2) → at51 p t e ≡ only r (rec 51 p 0)
    call-51 f d = call_at ∙ ap (λ (b : Bool). only (both b (is_write t e (p + 2))) (rec 51 p 0)) f ∙ ap (λ (b : Bool). only b (rec 51 p 0)) (sym d)

-- the node that a walk down from x stopped at, as it was read: it stands in the part; where it is an Ident, it has a word
module _ {part : List ℕ} {b x r e : ℕ} (W : View part b) (i : In part b x) (l : x ≤ r) (d : (W : View part b) → e ≡ (tree_of W).end x) (h : r < e) where
  pub root-in : In part b r
  root-in = within-or W i l (let y = d W in omega arith)

  pub root-worded : {k : ℕ} → ((W : View part b) → k ≡ (tree_of W).kind r) → k ≡ 35 → Worded part b r
  root-worded f g = record { view = W; here = root-in; carries = inr (sym (f W) ∙ g) }

-- the root of x
module _ (t : Tree) (e x r : ℕ) (d : r ≡ down t peels_fields x) where
  pub write-over : t.end x ≤ r → is_write t e x ≡ false
  unfolding is_write at_bottom
  write-over h = rw (sym d) (simp (le-ltb r (t.end x) h))

  module _ (l : r < t.end x) where
    pub write-other : (t.kind r ≡ 35 → ⊥) → is_write t e x ≡ false
    unfolding is_write at_bottom
    write-other n = rw (sym d) (simp (lt-ltb r (t.end x) l, ne_eqb (t.kind r) 35 n))

    module _ (k : t.kind r ≡ 35) where
      pub write-no-state : is_state t (t.text r) ≡ false → is_write t e x ≡ false
      unfolding is_write at_bottom is_unwritten
      write-no-state n = rw (sym d) (simp (lt-ltb r (t.end x) l, eq-eqb (t.kind r) 35 k, n))

      pub write-state : is_state t (t.text r) ≡ true → is_write t e x ≡ not (written_in t e (t.text r))
      unfolding is_write at_bottom is_unwritten
      write-state n = rw (sym d) (simp (lt-ltb r (t.end x) l, eq-eqb (t.kind r) 35 k, n))
