-- A rule about words at one node, and at the signer of a parameter.
use Prim.Native.Nat.{ℕ, ◌+◌, ◌<◌, ◌≤◌}
use mathlib.Core.Path.{◌≡◌, refl, ap, ◌∙◌, sym}
use mathlib.Core.Bool.{Bool, true, false, not, beq}
use mathlib.Core.List.{List, []}
use mathlib.Core.Logic.{◌⊎◌, inl, inr}
use native.Mathlib.Omega.{arith}
use borrow.Author.Tests.{lt-ltb, le-ltb}
use Rattle.image.specs.Pick.{pick}
use Rattle.image.specs.Admit.{nodes_of, node_count}
use Rattle.image.proofs.Children.{Declared, Last, kid_is, param_of}
use Rattle.rules.specs.Tree.{Tree}
use Rattle.rules.specs.Vocabulary.{Rec, rec, only}
use Rattle.records.proofs.Sweep.{keep_one, keep-none, has_one, has-not}
use Rattle.nodes.specs.Shown.{View, In, Worded, tree_of}
use Rattle.nodes.proofs.Parts.{inside, there, past, formed}
use Rattle.resolve_clauses.specs.declared.Rule.{Rule}
use Rattle.resolve_clauses.specs.Said.{CarriesWord, at_word, at_node, at_signer}

told : (a on : Bool) → pick on a (not a) ≡ beq a on
told true true = refl
told true false = refl
told false true = refl
told false false = refl

module _ (R : Rule) (P : List ℕ → Bool) (t : Tree) (p : ℕ) where
  pub word-hit : {r : Bool} → r ≡ P (t.text p) → at_word R P t p ≡ only (beq r R.on) (rec R.code p 0)
  word-hit {r} e = ap (λ (a : Bool). only (pick R.on a (not a)) (rec R.code p 0)) (sym e) ∙ ap (λ (b : Bool). only b (rec R.code p 0)) (told r R.on)

  pub node-other : (t.kind p ≡ R.kind → ⊥) → at_node R P t p ≡ only false (rec R.code p 0)
  unfolding only
  node-other n = keep-none (at_word R P t) p (has-not (t.kind p) R.kind n)

  pub node-one : t.kind p ≡ R.kind → at_node R P t p ≡ at_word R P t p
  node-one k = keep_one (at_word R P t) p (has_one (t.kind p) R.kind k)

pub carried : {j k : ℕ} → j ≡ k → CarriesWord k → CarriesWord j
carried e (inl h) = inl (e ∙ h)
carried e (inr h) = inr (e ∙ h)

-- a parameter's Type, and its signer
module _ {part : List ℕ} {b p : ℕ} (W : View part b) (i : In part b p) (k : (tree_of W).kind p ≡ 10) where
  declared : Declared (nodes_of W.image) 23 23 p
  declared = let h = inside W i in let u = W.shown.high in param_of (nodes_of W.image) (node_count W.image) (formed W) p (omega arith) k

  pub type-in : In part b (p + 2)
  type-in = let h = past W i in let w = i.0 in let y = declared.type_node.inside in there W (omega arith) (omega arith)

  pub signer-after : p < (tree_of W).end (p + 2)
  signer-after = let y = declared.type_node.past in omega arith

  pub signer-in : {s : ℕ} → s ≡ (tree_of W).end (p + 2) → s < (tree_of W).end p → Worded part b s
  signer-in {s} e l = record { view = W; here = (go declared.option).0; carries = inl (ap (tree_of W).kind e ∙ (go declared.option).1) }
    where
      go : ((tree_of W).end (p + 2) ≡ (tree_of W).end p) ⊎ Last (nodes_of W.image) 23 23 ((tree_of W).end (p + 2)) ((tree_of W).end p) → In part b s × ((tree_of W).kind ((tree_of W).end (p + 2)) ≡ 23)
      go (inl d) = absurd (omega arith)
      go (inr L) = let h = past W i in let w = i.0 in let y = declared.type_node.past in (there W (omega arith) (omega arith), kid_is L.node)

module _ (F : ℕ → List Rec) (t : Tree) (p : ℕ) where
  pub signer-other : (t.kind p ≡ 10 → ⊥) → at_signer F t p ≡ []
  signer-other n = keep-none _ p (has-not (t.kind p) 10 n)

  module _ (k : t.kind p ≡ 10) where
    pub signer-none : t.end p ≤ t.end (p + 2) → at_signer F t p ≡ []
    signer-none l = keep_one _ p (has_one (t.kind p) 10 k) ∙ keep-none F _ (le-ltb (t.end (p + 2)) (t.end p) l)

    pub signer-one : {s : ℕ} → s ≡ t.end (p + 2) → s < t.end p → at_signer F t p ≡ F s
    signer-one {s} e l = keep_one _ p (has_one (t.kind p) 10 k) ∙ keep_one F _ (lt-ltb (t.end (p + 2)) (t.end p) (omega arith)) ∙ ap F (sym e)
