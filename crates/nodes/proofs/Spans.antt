-- The range of a loop: nodes that all stand in the part. It is in every loop's invariant, so that what a turn requires of its node is found.
use Prim.Native.Nat.{ℕ, ◌+◌, ◌-◌, ◌/◌, ◌<◌, ◌≤◌}
use mathlib.Core.Path.{◌≡◌, ap, ◌∙◌, sym}
use mathlib.Core.List.{List}
use native.Mathlib.Omega.{arith}
use lib.ListN.{length}
use Rattle.rules.specs.Sweep.{run}
use Rattle.rules.specs.Vocabulary.{Rec}
use Rattle.records.specs.Records.{Added}
use Rattle.records.proofs.Sweep.{Sweeping, sweep-starts, swept}
use Rattle.nodes.specs.Shown.{View, In, tree_of}
use Rattle.nodes.specs.First.{Body}
pub use Rattle.nodes.specs.Span.{Span}
use Rattle.nodes.proofs.Parts.{past, few, end_is}
use Rattle.nodes.proofs.Shapes.{ends-within}

module _ {part : List ℕ} {b a to : ℕ} (W : View part b) (i : In part b a) (e : to ≡ (tree_of W).end a) where
  -- from a node, and from its first child, to its end
  pub span_of : Span part b a to
  span_of = let h = past W i in let u = few W in let y = W.shown.bytes in let l = i.0 in record { start = l; order = omega arith; held = omega arith; under = omega arith }

  pub span_below : Span part b (a + 1) to
  span_below = let h = past W i in let S = span_of in let s = S.start in let y = S.held in let u = S.under in record { start = omega arith; order = omega arith; held = y; under = u }

  -- the next child
  pub child-on : {p q : ℕ} → a < p → p < to → q ≡ (tree_of W).end p → (p < q) × (q ≤ to)
  child-on {p} {q} l h d = let n = ends-within W i {q = p} l (omega arith) in (omega arith, omega arith)

-- the whole of a part
pub upto_is : {part : List ℕ} {b : ℕ} (W : View part b) → b + length part / 16 ≡ W.upto
upto_is W = let y = W.shown.bytes in let l = W.shown.low in omega arith

pub span-whole : {part : List ℕ} {b to : ℕ} (W : View part b) → to ≡ W.upto → Span part b b to
span-whole W e = let u = few W in let y = W.shown.bytes in let l = W.shown.low in record { start = omega arith; order = omega arith; held = omega arith; under = omega arith }

-- from the first statement of a node to its end
pub span-body : {part : List ℕ} {b p r to : ℕ} (B : Body part b p r) (W : View part b) → to ≡ (tree_of W).end p → Span part b r to × (p < r) × (b ≤ p)
span-body B W e =
    let d = sym (end_is B.view B.here) ∙ end_is W B.here in
    let S = span_of W B.here e in
    let y = S.held in
    let u = S.under in
    let a = B.first.after in
    let i = B.first.inside in
    let l = B.here.0 in
    (record { start = omega arith; order = omega arith; held = y; under = u }, a, l)

-- a sweep over the whole of a part, with a rule that is asked at each node
module _ {X : Type 0} {e : X → ℕ → ℕ} {F : X → ℕ → List Rec} {part : List ℕ} {b : ℕ} {o₀ : List ℕ} {k₀ : ℕ} where
  pub whole-starts : View part b → Span part b b (b + length part / 16) × Sweeping e F b (b + length part / 16) 1 o₀ k₀ o₀ k₀ b
  whole-starts W = let S = span-whole W (upto_is W) in (S, sweep-starts S.order)

  pub whole-swept : {o : List ℕ} {k p : ℕ} (view : X → View part b) → Span part b b (b + length part / 16) × Sweeping e F b (b + length part / 16) 1 o₀ k₀ o k p → b + length part / 16 ≤ p
      → Added e (λ x. run (F x) b ((view x).upto - b)) 2048 o₀ k₀ o k
  whole-swept view i l = let u = i.0.under in swept i.1 l (λ x. ap (λ (u : ℕ). run (F x) b (u - b)) (upto_is (view x))) (omega arith)
