-- Where a walk from child to child may stand: what its invariant asks, of the children of a node, of those up to a node, of a whole part.
use Prim.Native.Nat.{ℕ, ◌+◌, ◌/◌, ◌<◌, ◌≤◌}
use mathlib.Core.Path.{◌≡◌}
use mathlib.Core.List.{List}
use native.Mathlib.Omega.{arith}
use lib.ListN.{length}
use Rattle.nodes.specs.Shown.{View, In, tree_of}
use Rattle.nodes.specs.First.{Until}
use Rattle.nodes.specs.Chain.{Chain}
use Rattle.nodes.proofs.Parts.{end_is, past, there}
use Rattle.nodes.proofs.Shapes.{within, ends-within}
use Rattle.nodes.proofs.Spans.{Span, span_of, span-whole, upto_is}
use Rattle.nodes.proofs.Until.{until-span}

-- nodes of a range that all stand in the part, and of which none reaches past it
chain-by : {part : List ℕ} {b at to : ℕ} → b ≤ at → (W : View part b) → Span part b b to → ((p : ℕ) → at ≤ p → p < to → In part b p × ((tree_of W).end p ≤ to)) → Chain part b at to
chain-by l W S f = record {
  low = l;
  held = S.held;
  under = S.under;
  ends = λ p g h. let x = f p g h in let e = end_is W x.0 in let y = (past W x.0).0 in let z = x.1 in (omega arith, omega arith);
}

wider : {part : List ℕ} {b a to : ℕ} → Span part b a to → Span part b b to
wider S = let l = S.start in let h = S.order in record { start = omega arith; order = omega arith; held = S.held; under = S.under }

pub chain-of : {part : List ℕ} {b a from to : ℕ} (W : View part b) → In part b a → a < from → to ≡ (tree_of W).end a → Chain part b from to
chain-of W i l e = let j = i.0 in chain-by (omega arith) W (wider (span_of W i e)) (λ p g h. let n = ends-within W i {q = p} (omega arith) (omega arith) in (within W i (omega arith) (omega arith), let m = n.1 in omega arith))

pub chain-until : {part : List ℕ} {a to k : ℕ} → Until part 0 a to k → Chain part 0 (a + 1) to
chain-until U = let s = until-span U in let i = U.inside in chain-by (omega arith) U.view (wider s) (λ p g h. (within U.view U.here (omega arith) (omega arith), U.reached p (omega arith) h))

pub chain-all : {part : List ℕ} {b : ℕ} (W : View part b) → Chain part b b (b + length part / 16)
chain-all W = let u = upto_is W in chain-by (omega arith) W (span-whole W u) (λ p g h. let i = there W g (omega arith) in (i, let m = (past W i).1 in omega arith))
