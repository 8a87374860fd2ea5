-- Walks that do not look at every node: what each leaves out is of none of the kinds that it is after.
use Prim.Native.Nat.{ℕ, ◌+◌, ◌<◌, ◌≤◌}
use mathlib.Core.Path.{◌≡◌, refl, ap, ◌∙◌, sym}
use mathlib.Core.Bool.{Bool, true, false}
use mathlib.Core.List.{List}
use native.Mathlib.Omega.{arith}
use Rattle.image.specs.Pick.{pick}
use Rattle.rules.specs.Sweep.{has}
use Rattle.rules.specs.Tree.{Tree, state, type, declarations, type_holders}
use Rattle.rules.specs.Standing.{parts}
use Rattle.rules.proofs.Admitted.{no-declaration-below, no-type-below}
use Rattle.nodes.specs.Shown.{View, In, tree_of}
use Rattle.nodes.specs.Walk.{onward}
use Rattle.nodes.proofs.Parts.{inside, past}
use Rattle.nodes.proofs.Shapes.{ends-within, no_part, all_in, not_in}

pub onward-into : (t : Tree) (into : List ℕ) (p : ℕ) → has (t.kind p) into ≡ true → p + 1 ≡ onward t into p
onward-into t into p e = sym (ap (λ (x : Bool). pick x (p + 1) (t.end p)) e)

pub onward-past : (t : Tree) (into : List ℕ) (p : ℕ) {r : ℕ} → has (t.kind p) into ≡ false → r ≡ t.end p → r ≡ onward t into p
onward-past t into p e d = d ∙ sym (ap (λ (x : Bool). pick x (p + 1) (t.end p)) e)

-- from p the walk goes on to r: between them stands no node of kind ks, and r is in the range of whatever holds p
pub record Next {part : List ℕ} {b : ℕ} (W : View part b) (ks : List ℕ) (p r : ℕ) : Type 0 where
  pub after : p < r
  pub none : (j : ℕ) → p < j → j < r → has ((tree_of W).kind j) ks ≡ false
  pub within : {a : ℕ} → In part b a → a < p → p < (tree_of W).end a → r ≤ (tree_of W).end a

module _ {part : List ℕ} {b p : ℕ} (W : View part b) (i : In part b p) where
  to-next : (ks : List ℕ) {r : ℕ} → r ≡ p + 1 → Next W ks p r
  to-next ks e = record { after = omega arith; none = λ j l h. absurd (omega arith); within = λ k l h. omega arith }

  to_end : (ks : List ℕ) {r : ℕ} → r ≡ (tree_of W).end p → ((j : ℕ) → p < j → j < (tree_of W).end p → has ((tree_of W).kind j) ks ≡ false) → Next W ks p r
  to_end ks e f = record { after = let h = past W i in omega arith; none = λ j l h. f j l (omega arith); within = λ k l h. let n = ends-within W k l h in omega arith }

  walks : (into ks : List ℕ) → (has ((tree_of W).kind p) into ≡ false → (j : ℕ) → p < j → j < (tree_of W).end p → has ((tree_of W).kind j) ks ≡ false) → {r : ℕ} → r ≡ onward (tree_of W) into p → Next W ks p r
  walks into ks f {r} e = go (has ((tree_of W).kind p) into) refl
    where
      go : (x : Bool) → has ((tree_of W).kind p) into ≡ x → Next W ks p r
      go true d = to-next ks (e ∙ sym (onward-into (tree_of W) into p d))
      go false d = to_end ks (e ∙ sym (onward-past (tree_of W) into p d refl)) (f d)

  -- items and fields
  pub declarations-on : 0 < p → {r : ℕ} → r ≡ onward (tree_of W) state p → Next W declarations p r
  declarations-on z = walks state declarations (λ n j l h. no-declaration-below W.image W.shown.admitted p j z (let u = inside W i in let v = W.shown.high in omega arith) n l h)

  -- types
  pub types-on : 0 < p → {r : ℕ} → r ≡ onward (tree_of W) type_holders p → Next W type p r
  types-on z = walks type_holders type (λ n j l h. no-type-below W.image W.shown.admitted p j z (let u = inside W i in let v = W.shown.high in omega arith) n l h)

  -- parts of an item, from child to child
  pub parts-on : (ks : List ℕ) → all_in ks parts ≡ true → {a : ℕ} → In part b a → 0 < a → a < p → p < (tree_of W).end a → {r : ℕ} → r ≡ (tree_of W).end p → Next W ks p r
  parts-on ks al k z l h e = to_end ks e (λ j g f. not_in parts ((tree_of W).kind j) ks al (no_part W k z l h j g f))

  -- any node
  pub each_on : (ks : List ℕ) → Next W ks p (p + 1)
  each_on ks = to-next ks refl

  -- from an item or a field of the contract, whose end is `to`, to the next one
  pub declaration-moves : 0 < p → {r to : ℕ} → In part b 0 → to ≡ (tree_of W).end 0 → p < to → r ≡ onward (tree_of W) state p → (p < r) × (r ≤ to)
  declaration-moves z k e l d = let N = declarations-on z d in let h = N.within k z (omega arith) in (N.after, omega arith)

-- a walk over nodes of more kinds
pub next_of : (ks l : List ℕ) → all_in ks l ≡ true → {part : List ℕ} {b p r : ℕ} {W : View part b} → Next W l p r → Next W ks p r
next_of ks l a {W = W} N = record { after = N.after; none = λ j g h. not_in l ((tree_of W).kind j) ks a (N.none j g h); within = N.within }

-- some of the kinds
pub none_of : (ks l : List ℕ) → all_in ks l ≡ true → {part : List ℕ} {b p r : ℕ} {W : View part b} → Next W l p r → (j : ℕ) → p < j → j < r → has ((tree_of W).kind j) ks ≡ false
none_of ks l a {W = W} N j g h = not_in l ((tree_of W).kind j) ks a (N.none j g h)
