-- One node's part in a loop that marks: the test of its kind, and the mark of a name.
use Prim.Native.Nat.{ℕ, ◌+◌, ◌-◌, ◌≤◌}
use mathlib.Core.Path.{◌≡◌, refl, ap, ◌∙◌, sym, subst}
use mathlib.Core.Bool.{Bool, true, false, not}
use mathlib.Core.List.{List}
use mathlib.Core.Logic.{◌⊎◌, inl, inr, ⊎_elim}
use native.Mathlib.Omega.{arith}
use lib.ListN.{set}
use Rattle.image.specs.Pick.{both}
use Rattle.rules.specs.Sweep.{also, same}
use Rattle.nodes.specs.Shown.{View, In, Worded, tree_of, number}
use Rattle.nodes.specs.Marks.{Marks, marking}
use Rattle.nodes.proofs.Names.{marks-as, marks-set}
use Rattle.nodes.proofs.Parts.{kind-is, ranged}
use Rattle.nodes.specs.First.{NameFirst}
use Rattle.nodes.proofs.Shapes.{named-first}
use Rattle.nodes.proofs.Marking.{marking-none}

module _ (on : Bool) {s : List ℕ} (P : List ℕ → Bool) {r : List Bool} {b : Bool} (G : List ℕ → ℕ → Bool) (p : ℕ) where
  -- a node of another kind does nothing; one of the kind does what it does
  pub marks-skip : b ≡ false → Marks s P r → Marks s (λ w. marking on (P w) (also b (G w) p)) r
  marks-skip e M = marks-as (λ w. sym (ap (λ (x : Bool). marking on (P w) (also x (G w) p)) e ∙ marking-none on (P w))) M

  pub marks-keep : b ≡ true → Marks s (λ w. marking on (P w) (G w p)) r → Marks s (λ w. marking on (P w) (also b (G w) p)) r
  marks-keep e M = marks-as (λ w. sym (ap (λ (x : Bool). marking on (P w) (also x (G w) p)) e)) M

-- the mark of the word of a Name or an Ident
pub marks-name : (on : Bool) {part : List ℕ} {b p : ℕ} (W : View part b) (i : In part b p) {P : List ℕ → Bool} {r : List Bool} → ((tree_of W).kind p ≡ 23) ⊎ ((tree_of W).kind p ≡ 35) → Marks W.image P r
    → Marks W.image (λ w. marking on (P w) (same ((tree_of W).text p) w)) (set r (number W.image p - 1) on)
marks-name on {part} {b} {p} W i {P} {r} k M = let g = ranged W i k in marks-set on W.image P r (number W.image p) W.shown.admitted g.0 g.1 M

-- the same word, by whichever image it is seen
pub carries-in : {part : List ℕ} {b p : ℕ} (W : View part b) (D : Worded part b p) → ((tree_of W).kind p ≡ 23) ⊎ ((tree_of W).kind p ≡ 35)
carries-in W D =
    let e = sym (kind-is D.view D.here) ∙ kind-is W D.here in
    ⊎_elim (λ h. inl (sym e ∙ h)) (λ h. inr (sym e ∙ h)) D.carries

-- the number of a word
pub numbered : {part : List ℕ} {b p x : ℕ} (D : Worded part b p) → ((W : View part b) → x ≡ number W.image p) → (1 ≤ x) × (x ≤ 1024)
numbered D f = let g = ranged D.view D.here D.carries in let e = f D.view in (omega arith, omega arith)

-- a node that begins with its Name
pub named-at : {part : List ℕ} {b p k : ℕ} (W : View part b) → In part b p → NameFirst k → (tree_of W).kind p ≡ k → Worded part b (p + 1)
named-at W i f e = let n = named-first W i (subst NameFirst (sym e) f) in record { view = W; here = n.0; carries = inl n.1 }

-- the number of the Name of a node of kind k, from what was read of the node
pub named-number : {part : List ℕ} {b p k q x : ℕ} (W : View part b) → In part b p → NameFirst k → ((W : View part b) → q ≡ (tree_of W).kind p) → q ≡ k → ((W : View part b) → x ≡ number W.image (p + 1)) → (1 ≤ x) × (x ≤ 1024)
named-number W i f d e = numbered (named-at W i f (sym (d W) ∙ e))

-- marks set in a table that has none, and taken off again
pub set-fresh : {s : List ℕ} {Q : List ℕ → Bool} {r : List Bool} → Marks s (λ w. marking true false (Q w)) r → Marks s Q r
unfolding marking
set-fresh M = marks-as (λ w. refl) M

pub taken-off : {s : List ℕ} (Q : List ℕ → Bool) {r : List Bool} → Marks s (λ w. marking false (Q w) (Q w)) r → Marks s (λ w. false) r
unfolding marking
taken-off Q M = marks-as (λ w. never (Q w)) M
  where
    never : (b : Bool) → both b (not b) ≡ false
    never true = refl
    never false = refl
