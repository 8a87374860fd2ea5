-- The Name and the type of a FieldDecl or a Param: what the word of its type says of a mark, and that none is of type `Q_Address` where the image has no such name.
use Prim.Native.Nat.{ℕ, ◌+◌, ◌<◌}
use mathlib.Core.Path.{◌≡◌, refl, ap, ◌∙◌, sym, subst}
use mathlib.Core.Bool.{Bool, true, false}
use mathlib.Core.List.Memᴰ
use mathlib.Core.List.{List}
use mathlib.Core.Logic.{inl}
use native.Mathlib.Omega.{arith}
use Rattle.image.specs.Pick.{pick, both}
use Rattle.image.specs.Admit.{nodes_of, node_count}
use Rattle.image.proofs.Children.{Declared, kid_is, field-decl-of, param_of}
use Rattle.rules.specs.Sweep.{has, also, same}
use Rattle.rules.specs.Tree.{Tree, param}
use Rattle.rules.specs.Words.{Q_Address}
use Rattle.rules.specs.Vocabulary.{Below, named, typed}
use Rattle.rules.specs.Model.{StateTyped, is_state_typed}
use Rattle.rules.proofs.Reflect.{tells-some_below, tells_both, tells-named, tells-typed}
use Rattle.rules.proofs.Model.{tells-is_state_typed}
use Rattle.records.proofs.Sweep.{has_one, has-not}
use Rattle.nodes.specs.Shown.{View, In, Worded, tree_of}
use Rattle.nodes.specs.Marks.{Marks, marking}
use Rattle.nodes.specs.First.{NameFirst}
use Rattle.nodes.proofs.Names.{marks-as, both_true, both_false}
use Rattle.nodes.proofs.Parts.{inside, there, past, formed}
use Rattle.nodes.proofs.Fall.{not_so}
use Rattle.nodes.proofs.Shapes.{named-first, within}
use Rattle.nodes.proofs.Turns.{marks-skip, marks-keep}
use Rattle.nodes.proofs.Marking.{marking-none}
use Rattle.names.proofs.Said.{unsaid}
use Rattle.resolve_calls.specs.Called.{param_at, param_typed, field_at, AddressTyping}

-- the Name of a FieldDecl or a Param, and the Name of its Type
module _ {part : List ℕ} {b p : ℕ} (W : View part b) (i : In part b p) where
  words-at : {low high : ℕ} → Declared (nodes_of W.image) low high p → Worded part b (p + 1) × Worded part b (p + 3)
  unfolding has
  words-at D =
      let h = past W i in
      let w = i.0 in
      let x = D.name_node.inside in
      let y = D.type_node.inside in
      let n = named-first W (there W {p = p + 2} (omega arith) (omega arith)) (subst NameFirst (sym (kid_is D.type_node)) (omega arith, refl)) in
      let e : p + 2 + 1 ≡ p + 3 = omega arith in (
        record { view = W; here = there W (omega arith) (omega arith); carries = inl (kid_is D.name_node) },
        record { view = W; here = rw e at n.0; carries = inl (ap (tree_of W).kind (sym e) ∙ n.1) },
      )

  counted : p < node_count W.image
  counted = let h = inside W i in let u = W.shown.high in omega arith

  pub field-words : (tree_of W).kind p ≡ 4 → Worded part b (p + 1) × Worded part b (p + 3)
  field-words k = words-at (field-decl-of (nodes_of W.image) (node_count W.image) (formed W) p counted k)

  pub param-words : (tree_of W).kind p ≡ 10 → Worded part b (p + 1) × Worded part b (p + 3)
  param-words k = words-at (param_of (nodes_of W.image) (node_count W.image) (formed W) p counted k)

-- none is of a type that is no name of the image
module _ {nodes : List ℕ} {address : ℕ} (T : AddressTyping nodes address) (z : address < 1) where
  pub no_field : In nodes 0 0 → (w : List ℕ) → is_state_typed (tree_of T.view) Q_Address w ≡ false
  no_field i w = not_so _ (λ e. go ((tells-is_state_typed (tree_of T.view) Q_Address w).so e))
    where
      go : StateTyped (tree_of T.view) Q_Address w → ⊥
      go (f, L, e) = let B = L.is.0 in unsaid (field-words T.view (within T.view i B.after B.inside) (Memᴰ.eq_of_singleton B.kind)).1 T.view Q_Address T.address_number z e

  pub no-param : {a : ℕ} → In nodes 0 a → (w : List ℕ) → param_typed (tree_of T.view) a w ≡ false
  no-param {a} i w = not_so _ (λ e. go ((tells-some_below (tree_of T.view) param a (λ x. tells_both (tells-named (tree_of T.view) w x) (tells-typed (tree_of T.view) Q_Address x))).so e))
    where
      go : ((x : ℕ) × Below (tree_of T.view) param a x × (((tree_of T.view).text (x + 1) ≡ w) × ((tree_of T.view).text (x + 3) ≡ Q_Address))) → ⊥
      go (x, B, e) = unsaid (param-words T.view (within T.view i B.after B.inside) (Memᴰ.eq_of_singleton B.kind)).1 T.view Q_Address T.address_number z e.1

-- a mark that is set or taken off is what the node says
by-mark : (on a b : Bool) → marking on a b ≡ pick b on a
unfolding marking
by-mark true true true = refl
by-mark true true false = refl
by-mark true false true = refl
by-mark true false false = refl
by-mark false true true = refl
by-mark false true false = refl
by-mark false false true = refl
by-mark false false false = refl

module _ {s : List ℕ} (t : Tree) (p : ℕ) (P : List ℕ → Bool) {r : List Bool} where
  pub field-other : (t.kind p ≡ 4 → ⊥) → Marks s P r → Marks s (λ w. pick (field_at t w p) (typed t Q_Address p) (P w)) r
  field-other n M = marks-as (λ w. sym (ap (λ (x : Bool). pick (also x (named t w) p) (typed t Q_Address p) (P w)) (has-not _ 4 n))) M

  pub field_marks : (on : Bool) → t.kind p ≡ 4 → on ≡ same (t.text (p + 3)) Q_Address → Marks s (λ w. marking on (P w) (same (t.text (p + 1)) w)) r → Marks s (λ w. pick (field_at t w p) (typed t Q_Address p) (P w)) r
  unfolding named typed
  field_marks on k e M =
      marks-as
      (λ w. by-mark on (P w) (named t w p) ∙ ap (λ (x : Bool). pick (named t w p) x (P w)) e
      ∙ sym (ap (λ (x : Bool). pick (also x (named t w) p) (typed t Q_Address p) (P w)) (has_one _ 4 k)))
      M

  module _ (on : Bool) where
    pub param-other : (t.kind p ≡ 10 → ⊥) → Marks s P r → Marks s (λ w. marking on (P w) (also (has (t.kind p) param) (param_at t w) p)) r
    param-other n M = marks-skip on P (param_at t) p (has-not _ 10 n) M

    module _ (k : t.kind p ≡ 10) where
      pub param-untyped : same (t.text (p + 3)) Q_Address ≡ false → Marks s P r → Marks s (λ w. marking on (P w) (also (has (t.kind p) param) (param_at t w) p)) r
      unfolding typed
      param-untyped e M = marks-keep on P (param_at t) p (has_one _ 10 k) (marks-as (λ w. sym (ap (λ (x : Bool). marking on (P w) (both (named t w p) x)) e ∙ ap (marking on (P w)) (both_false (named t w p)) ∙ marking-none on (P w))) M)

      pub param_marks : same (t.text (p + 3)) Q_Address ≡ true → Marks s (λ w. marking on (P w) (same (t.text (p + 1)) w)) r → Marks s (λ w. marking on (P w) (also (has (t.kind p) param) (param_at t w) p)) r
      unfolding named typed
      param_marks e M = marks-keep on P (param_at t) p (has_one _ 10 k) (marks-as (λ w. sym (ap (λ (x : Bool). marking on (P w) (both (named t w p) x)) e ∙ ap (marking on (P w)) (both_true (named t w p)))) M)
