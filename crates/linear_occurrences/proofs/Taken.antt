-- What one node takes, and that it stands after the node that takes it ("an Assign value", "each argument" of document 01).
use Prim.Native.Nat.{ℕ, suc, ◌+◌, ◌-◌, ◌<◌, ◌≤◌}
use mathlib.Core.Path.{◌≡◌, refl, ap, ◌∙◌, sym}
use mathlib.Core.Bool.{Bool, true, false, not, true≢false}
use mathlib.Core.List.Memᴰ
use mathlib.Core.List.{List, Memᴰ}
use mathlib.Core.Logic.{◌⊎◌, ⊎_elim}
use native.Mathlib.Omega.{arith}
use borrow.Author.Tests.{lt-ltb, le-ltb, ltb-true, ltb-false}
use lib.Dec.{ltb, eqb}
use Rattle.image.specs.Pick.{both}
use Rattle.rules.specs.Sweep.{also, some, has}
use Rattle.rules.specs.Tree.{Tree, assign, call, peels}
use Rattle.rules.specs.Words.{readers}
use Rattle.rules.specs.Vocabulary.{Argument, is_child, some_argument, Down, down, at_bottom, Field, is_field}
use Rattle.rules.proofs.Consumers.{value-inside}
use Rattle.rules.proofs.Reflect.{tells-has, Tells, one-fact, tells-some, tells_both, tells-either, tells-not, tells-eqb, tells-also, tells-is_field, tells-at_bottom, tells-some_argument}
use Rattle.records.proofs.Sweep.{has_one, has-not}
use Rattle.nodes.specs.Shown.{View, In, tree_of}
use Rattle.nodes.proofs.Names.{either-false}
use Rattle.nodes.proofs.Parts.{inside, past, there}
use Rattle.nodes.proofs.Shapes.{within, ends-within, first-inside}
use Rattle.nodes.proofs.ChildrenOf.{Reached, no-child, reached-on}
use Rattle.linear_occurrences.specs.Counted.{takes_node, is_value, peels_to, is_taken}

-- the node that an argument peels to
module _ (t : Tree) (a r : ℕ) (d : r ≡ down t peels a) where
  pub peels-over : t.end a ≤ r → (i : ℕ) → peels_to t i a ≡ false
  unfolding at_bottom
  peels-over h i = rw (sym d) (simp (le-ltb r (t.end a) h))

  pub peels-so : r < t.end a → (i : ℕ) → eqb r i ≡ peels_to t i a
  unfolding at_bottom
  peels-so h i = rw (sym d) (simp (lt-ltb r (t.end a) h))

module _ {part : List ℕ} {b p : ℕ} (W : View part b) (i : In part b p) where
  -- the value of an Assign stands after its target
  pub value_in : (tree_of W).kind p ≡ 27 → In part b (p + 1) × (p + 1 < (tree_of W).end (p + 1)) × In part b ((tree_of W).end (p + 1))
  value_in k =
      let u = inside W i in
      let h = W.shown.high in
      let v = value-inside W.image W.shown.admitted p (omega arith) k in
      let x = v.0 in
      let y = v.1 in
      let z = (past W i).1 in
      let w = i.0 in
      (there W (omega arith) (omega arith), x, there W (omega arith) (omega arith))

  -- the callee of a Call, and the walk over its arguments, which begins at the callee's end
  pub callee-in : (tree_of W).kind p ≡ 43 → In part b (p + 1) × (p + 1 < (tree_of W).end (p + 1)) × ((tree_of W).end (p + 1) ≤ (tree_of W).end p)
  unfolding has
  callee-in k = let h = first-inside W i 43 k (omega arith) refl in let e = ends-within W i {q = p + 1} (omega arith) h in (within W i (omega arith) h, e.0, e.1)

  pub reached-first : (tree_of W).kind p ≡ 43 → {q : ℕ} → q ≡ (tree_of W).end (p + 1) → Reached (tree_of W) p q
  unfolding has
  reached-first k e = let z : Reached (tree_of W) p (p + 1) = λ q a g. absurd (omega arith) in rw e (reached-on W i (omega arith) (first-inside W i 43 k (omega arith) refl) z)

-- where a test fails at the front of a range, the rest decides
some-later : (p : ℕ → Bool) (a b e : ℕ) → a ≤ b → b ≤ e → ((j : ℕ) → a ≤ j → j < b → p j ≡ false) → some p a (e - a) ≡ some p b (e - b)
some-later p a b e l h f =
    one-fact (tells-some a (e - a) holds)
    (record {
      so = λ d. let x = (tells-some b (e - b) holds).so d in let y = x.1 in let z = x.2 in (x.0, omega arith, omega arith, x.3);
      back = λ x. let y = x.2 in (tells-some b (e - b) holds).back (x.0, from x.0 x.1 x.3 (ltb x.0 b) refl, omega arith, x.3);
    })
  where
    holds : (i : ℕ) → Tells (p i) (p i ≡ true)
    holds i = record { so = λ d. d; back = λ d. d }

    from : (j : ℕ) → a ≤ j → p j ≡ true → (c : Bool) → ltb j b ≡ c → b ≤ j
    from j g d true q = absurd (true≢false (sym d ∙ f j g (ltb-true j b q)))
    from j g d false q = ltb-false j b q

-- the arguments are the children past the callee's end
pub taken_is : (t : Tree) (c i from to : ℕ) → from ≡ t.end (c + 1) → to ≡ t.end c → c + 1 < from → from ≤ to → some (λ a. also (is_child t c a) (peels_to t i) a) from (to - from) ≡ is_taken t i c
unfolding some_argument
taken_is t c i from to d e l h =
    sym (some-later f (suc (suc c)) from to (omega arith) h (λ a g k. ap (λ (x : Bool). also x (peels_to t i) a) (no-child t c (c + 1) a (omega arith) (omega arith) (omega arith))))
    ∙ ap (λ (y : ℕ). some f (suc (suc c)) (y - suc (suc c))) e
  where
    f : ℕ → Bool
    f a = also (is_child t c a) (peels_to t i) a

-- a node that is neither, an Assign, a Call
module _ (t : Tree) (p : ℕ) where
  pub other-takes : (t.kind p ≡ 27 → ⊥) → (t.kind p ≡ 43 → ⊥) → (i : ℕ) → takes_node t i p ≡ false
  other-takes m n i = rw (has-not (t.kind p) 27 m, has-not (t.kind p) 43 n)

  pub assign-takes : t.kind p ≡ 27 → (i : ℕ) → takes_node t i p ≡ eqb (t.end (p + 1)) i
  assign-takes k i = rw (has_one (t.kind p) 27 k, has-not (t.kind p) 43 (λ e. omega arith)) (either-false _)

  module _ (k : t.kind p ≡ 43) where
    call_at : (i : ℕ) → takes_node t i p ≡ both (not (is_field t readers (p + 1))) (is_taken t i p)
    call_at i = rw (has-not (t.kind p) 27 (λ e. omega arith), has_one (t.kind p) 43 k)

    pub reader-takes : is_field t readers (p + 1) ≡ true → (i : ℕ) → takes_node t i p ≡ false
    reader-takes f i = call_at i ∙ ap (λ (x : Bool). both (not x) (is_taken t i p)) f

    pub call-takes : is_field t readers (p + 1) ≡ false → (i : ℕ) → takes_node t i p ≡ is_taken t i p
    call-takes f i = call_at i ∙ ap (λ (x : Bool). both (not x) (is_taken t i p)) f

-- the facts that these tests tell
abbrev pub CallTakes : Tree → ℕ → ℕ → Type 0
CallTakes t i c = (Field t readers (c + 1) → ⊥) × ((a : ℕ) × Argument t c a × ((j : ℕ) × Down t peels a j × (j ≡ i)))

abbrev pub NodeTakes : Tree → ℕ → ℕ → Type 0
NodeTakes t i p = (Memᴰ (t.kind p) assign × (t.end (p + 1) ≡ i)) ⊎ (Memᴰ (t.kind p) call × CallTakes t i p)

pub tells-takes : (t : Tree) (i p : ℕ) → Tells (takes_node t i p) (NodeTakes t i p)
tells-takes t i p =
    tells-either (tells-also (is_value t i) p (tells-has (t.kind p) assign) (tells-eqb _ i))
    (tells-also _ p (tells-has (t.kind p) call) (tells_both (tells-not (tells-is_field t readers (p + 1))) (tells-some_argument t p (λ a. tells-at_bottom t peels a (λ j. tells-eqb j i)))))

-- what a node takes stands after it, and in the part
pub takes-after : {part : List ℕ} {b p : ℕ} (W : View part b) → In part b p → (i : ℕ) → NodeTakes (tree_of W) i p → (p < i) × (i < W.upto)
takes-after {p = p} W h i =
    ⊎_elim
    (λ s. let v = value_in W h (Memᴰ.eq_of_singleton s.0) in let x = v.1 in let y = inside W v.2 in let e = s.1 in (omega arith, omega arith))
    (λ s.
    let a = s.1.1.0 in
    let A = s.1.1.1 in
    let D = s.1.1.2.1 in
    let e = s.1.1.2.2 in
    let x = A.after in
    let y = A.inside in
    let f = D.from in
    let g = D.inside in
    let m = (ends-within W h {q = a} (omega arith) y).1 in
    let n = (past W h).1 in
    (omega arith, omega arith))
