-- A word that the image lacks stands nowhere: nothing is declared by its bytes, and no type is named so.
use Prim.Native.Nat.{ℕ, ◌<◌}
use mathlib.Core.Path.{◌≡◌, refl, ◌∙◌, sym}
use mathlib.Core.Bool.{Bool, true, false, true≢false}
use mathlib.Core.List.Memᴰ
use mathlib.Core.List.{List, [], ◌∷◌}
use mathlib.Core.Logic.{inl, inr, ⊎_elim}
use native.Mathlib.Omega.{arith}
use Rattle.rules.specs.Sweep.{same, has}
use Rattle.rules.specs.Tree.{type}
use Rattle.rules.specs.Words.{QTOV, Q_Asset}
use Rattle.rules.specs.Vocabulary.{Below, some_below, declares, Declares}
use Rattle.rules.specs.Model.{Inner, inner, is_state, is_declared_asset, is_known_asset}
use Rattle.rules.proofs.Reflect.{tells-declares, tells-some_below, tells-same}
use Rattle.rules.proofs.Model.{tells-inner, tells-is_known_asset}
use Rattle.nodes.specs.Shown.{View, In, tree_of}
use Rattle.nodes.specs.First.{NameFirst}
use Rattle.nodes.proofs.Shapes.{within}
use Rattle.nodes.proofs.Turns.{named-at}
use Rattle.nodes.proofs.Fall.{not_so}
use Rattle.names.specs.Found.{Numbered}
use Rattle.names.proofs.Said.{unsaid}
use Rattle.nodes.proofs.Naming.{naming}
use Rattle.model.specs.declared.Question.{Question}
use Rattle.model.specs.declared.Question.TheVariants.{State, Declared, Known}
use Rattle.model.specs.Questions.{question_of, of_no_name}
use Rattle.model.proofs.Inner.{type_name, argument-name}

module _ {part : List ℕ} (W : View part 0) (root : In part 0 0) where
  below_in : {ks : List ℕ} {p : ℕ} → Below (tree_of W) ks 0 p → In part 0 p
  below_in B = within W root B.after B.inside

  -- no type is named so where no name is `Q_Asset`
  pub none_named : {q : ℕ} → Numbered W.image Q_Asset q → q < 1 → (w : List ℕ) → some_below (tree_of W) type 0 (inner (tree_of W) w) ≡ false
  none_named N l w = not_so _ (λ e. go ((tells-some_below (tree_of W) type 0 (tells-inner (tree_of W) w)).so e))
    where
      go : ((y : ℕ) × Below (tree_of W) type 0 y × Inner (tree_of W) w y) → ⊥
      go (y, B, I) = unsaid (type_name W (below_in B) (Memᴰ.eq_of_singleton B.kind)) W Q_Asset N l I.is_asset

  -- bytes that are no name of the image: nothing is declared so, and no asset but `QTOV` is known so
  module _ {w : List ℕ} (N : Numbered W.image w 0) where
    undeclared : {k : ℕ} → NameFirst k → Declares (tree_of W) (k ∷ []) 0 w → ⊥
    undeclared f (i, (B, e)) = unsaid (named-at W (below_in B) f (Memᴰ.eq_of_singleton B.kind)) W w N (omega arith) e

    none-declares : {k : ℕ} → NameFirst k → declares (tree_of W) (k ∷ []) 0 w ≡ false
    none-declares {k} f = not_so _ (λ e. undeclared f ((tells-declares (tree_of W) (k ∷ []) 0 w).so e))

    none-known : same w QTOV ≡ false → is_known_asset (tree_of W) w ≡ false
    unfolding has
    none-known n = not_so _ (λ e. ⊎_elim (undeclared (omega arith, refl)) (⊎_elim (λ d. true≢false (sym ((tells-same w QTOV).back d) ∙ n)) inside) ((tells-is_known_asset (tree_of W) w).so e))
      where
        inside : ((y : ℕ) × Below (tree_of W) type 0 y × Inner (tree_of W) w y) → ⊥
        inside (y, B, I) = unsaid (let n = argument-name W (below_in B) I.has_argument I.is_type in record { view = W; here = n.0; carries = inl n.1 }) W w N (omega arith) I.is_named

    -- each question
    pub of-no-name : (q : Question) → of_no_name q w ≡ question_of q (tree_of W) w
    unfolding is_state is_declared_asset
    of-no-name State = sym (none-declares naming.field.0)
    of-no-name Declared = sym (none-declares naming.asset.0)
    of-no-name Known = go (same w QTOV) refl
      where
        go : (b : Bool) → same w QTOV ≡ b → same w QTOV ≡ is_known_asset (tree_of W) w
        go true e = e ∙ sym ((tells-is_known_asset (tree_of W) w).back (inr (inl ((tells-same w QTOV).so e))))
        go false e = e ∙ sym (none-known e)
