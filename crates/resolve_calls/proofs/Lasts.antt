-- A walk over the fields: each mark says what the last of its name is, as a later one replaces the earlier one's type.
use Prim.Native.Nat.{ℕ, zero, suc, ◌+◌, ◌-◌, ◌<◌, ◌≤◌}
use mathlib.Core.Path.{◌≡◌, refl, ap, ◌∙◌, sym}
use mathlib.Core.Bool.{Bool, true, false}
use mathlib.Core.List.{List}
use mathlib.Core.Logic.{◌⊎◌, inl, inr}
use native.Mathlib.Omega.{arith}
use borrow.Author.Tests.{lt-ltb, ltb-true, ltb-false}
use lib.Dec.{ltb}
use Rattle.image.specs.Pick.{pick, both}
use Rattle.image.proofs.Every.{both_left, both_right}
use Rattle.image.proofs.Decide.{eq-or-ne}
use Rattle.rules.specs.Tree.{Tree, field}
use Rattle.rules.specs.Words.{Q_Address}
use Rattle.rules.specs.Vocabulary.{Named, IsLast, named, typed}
use Rattle.rules.specs.Model.{is_state_typed}
use Rattle.rules.proofs.Reflect.{one-fact, tells-typed}
use Rattle.rules.proofs.Model.{tells-is_state_typed}
use Rattle.nodes.specs.Shown.{View, tree_of}
use Rattle.nodes.specs.Table.{folded}
use Rattle.nodes.specs.Marks.{Marks}
use Rattle.nodes.proofs.Names.{marks-as}
use Rattle.nodes.proofs.Folding.{folding-done}
use Rattle.nodes.proofs.Walking.{Walked}
use Rattle.places.specs.Places.{notes, notes_below, last_of}
use Rattle.places.specs.declared.Note.TheVariants as note
use Rattle.places.proofs.Reading.{last-is, last-absent}
use Rattle.resolve_calls.specs.Called.{field_at, AddressTyping}

-- v is a node, and of type `Q_Address`
abbrev is_typed : Tree → ℕ → Bool
is_typed t v = both (ltb 0 v) (typed t Q_Address v)

-- a later one replaces it
replaced : (t : Tree) (b : Bool) (i v : ℕ) → 0 < i → is_typed t (pick b i v) ≡ pick b (typed t Q_Address i) (is_typed t v)
replaced t true i v l = ap (λ (x : Bool). both x (typed t Q_Address i)) (lt-ltb 0 i l)
replaced t false i v l = refl

-- a state field is typed by its last declaration
typed-last : (t : Tree) (w : List ℕ) → is_typed t (last_of t field t.root w) ≡ is_state_typed t Q_Address w
typed-last t w =
    one-fact
    (record {
      so = λ e. (v, last-is t field t.root w (ltb-true 0 v (both_left (ltb 0 v) _ e)), (tells-typed t Q_Address v).so (both_right (ltb 0 v) _ e));
      back = λ s. is s.0 s.1 s.2;
    })
    (tells-is_state_typed t Q_Address w)
  where
    v : ℕ
    v = last_of t field t.root w

    is : (f : ℕ) → IsLast (Named t field t.root w) f → t.text (f + 3) ≡ Q_Address → is_typed t v ≡ true
    is f L e = go (eq-or-ne v 0) (ltb f v) refl (ltb v f) refl
      where
        go : (v ≡ 0) ⊎ (v ≡ 0 → ⊥) → (b : Bool) → ltb f v ≡ b → (c : Bool) → ltb v f ≡ c → is_typed t v ≡ true
        go (inl z) b x c y = absurd (last-absent t field t.root w z f L.is)
        go (inr n) true x c y = absurd (L.none v (ltb-true f v x) (last-is t field t.root w (omega (arith, n))).is)
        go (inr n) false x true y = absurd ((last-is t field t.root w (omega (arith, n))).none f (ltb-true v f y) L.is)
        go (inr n) false x false y =
            let g = ltb-false f v x in
            let h = ltb-false v f y in
            let d : v ≡ f = omega arith in
            ap (λ (x : Bool). both x (typed t Q_Address v)) (lt-ltb 0 v (omega (arith, n))) ∙ ap (typed t Q_Address) d ∙ (tells-typed t Q_Address f).back e

-- what the fields make of a mark, one after another, is what the last of them says that has the name
typed-notes : (t : Tree) (w : List ℕ) (n : ℕ) → folded (λ i u. pick (field_at t w i) (typed t Q_Address i) u) false 1 n ≡ is_typed t (notes note.Last (field_at t w) 0 1 n)
unfolding folded notes
typed-notes t w zero = refl
typed-notes t w (suc n) =
    ap (pick (field_at t w (1 + n)) (typed t Q_Address (1 + n))) (typed-notes t w n) ∙ sym (replaced t (field_at t w (1 + n)) (1 + n) (notes note.Last (field_at t w) 0 1 n) (omega arith))

-- the walk over the fields, with each image that the nodes are seen by
abbrev pub Typed : (nodes : List ℕ) (address to : ℕ) → List Bool → List Bool → ℕ → Type 0
Typed nodes address to r₀ r p =
    (T : AddressTyping nodes address) → Walked false (λ (f : ℕ → Bool) v b i. pick b (f i) v) (typed (tree_of T.view) Q_Address) (λ (_ : Unit {0}). T.view) field (λ _. named (tree_of T.view)) 0 to r₀ r p

pub typed-done : {nodes : List ℕ} {address to p : ℕ} {r₀ r : List Bool} → ((W : View nodes 0) → to ≡ (tree_of W).end 0) → Typed nodes address to r₀ r p → to ≤ p
    → (T : AddressTyping nodes address) → Marks T.view.image (λ w. false) r₀ → Marks T.view.image (is_state_typed (tree_of T.view) Q_Address) r
unfolding notes_below
typed-done {to = to} e F h T M =
    let t = tree_of T.view in
    marks-as (λ w. typed-notes t w (to - 1) ∙ ap (λ (n : ℕ). is_typed t (notes note.Last (field_at t w) 0 1 (n - 1))) (e T.view) ∙ typed-last t w) (folding-done (F T).fold h tt (λ w. false) M)
