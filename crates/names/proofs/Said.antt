-- A Name or an Ident has the bytes of a word exactly when it has the word's number.
use Prim.Native.Nat.{ℕ, ◌<◌, ◌≤◌}
use mathlib.Core.Path.{◌≡◌, ap, ◌∙◌, sym}
use mathlib.Core.List.{List}
use mathlib.Core.Logic.{⊎_elim}
use native.Mathlib.Omega.{arith}
use lib.Dec.{eqb}
use Rattle.image.specs.Admit.{name_count}
use Rattle.image.proofs.Decide.{eq-or-ne}
use Rattle.rules.specs.Sweep.{same}
use Rattle.rules.proofs.Reflect.{tells_as, tells-eqb, tells-same, one-fact}
use Rattle.rules.proofs.Numbers.{same_numbers}
use Rattle.nodes.specs.Shown.{View, Worded, tree_of, number, name_text}
use Rattle.nodes.proofs.Parts.{ranged}
use Rattle.nodes.proofs.Turns.{carries-in}
use Rattle.names.specs.Found.{Numbered}

module _ {part : List ℕ} {b p q : ℕ} (D : Worded part b p) (W : View part b) (w : List ℕ) (N : Numbered W.image w q) where
  in-names : (1 ≤ number W.image p) × (number W.image p ≤ name_count W.image)
  in-names = let r = ranged W D.here (carries-in W D) in (r.0, r.1)

  pub said : eqb (number W.image p) q ≡ same ((tree_of W).text p) w
  said = one-fact (tells_as so back (tells-eqb (number W.image p) q)) (tells-same ((tree_of W).text p) w)
    where
      so : number W.image p ≡ q → (tree_of W).text p ≡ w
      so e = ap (name_text W.image) e ∙ N.is (let h = in-names in omega arith)

      back : (tree_of W).text p ≡ w → number W.image p ≡ q
      back f =
          ⊎_elim
          (λ (z : q ≡ 0). absurd (N.none z _ in-names.0 in-names.1 f))
          (λ (z : q ≡ 0 → ⊥). same_numbers W.image W.shown.admitted (number W.image p) q in-names.1 N.high (f ∙ sym (N.is (omega (arith, z)))))
          (eq-or-ne q 0)

  -- no node has the bytes of a word that is no name of the image
  pub unsaid : q < 1 → (tree_of W).text p ≡ w → ⊥
  unsaid z f = N.none (omega arith) _ in-names.0 in-names.1 f
