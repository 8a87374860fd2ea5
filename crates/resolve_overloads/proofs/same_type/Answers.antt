-- `same_type` meets its contract: as long, and node by node the same.
use native.Mathlib.Omega.{arith}
use Prim.Native.Nat.{ℕ, ◌+◌, ◌-◌, ◌<◌}
use mathlib.Core.Path.{◌≡◌, refl, sym, ◌∙◌}
use Rattle.image.proofs.Every.{every-none, every_more}
use Rattle.rules.specs.Tree.{Tree}
use Rattle.nodes.specs.Shown.{View, tree_of}
use Rattle.nodes.proofs.Parts.{past}
use Rattle.resolve_overloads.proofs.Turns.{few-nodes, type-size, type_node, type-same, type-nodes}
use Rattle.resolve_overloads.proofs.same_type.Goals as goal

-- the node that the loop has come to stands before the end of both types
before-ends : (t : Tree) (i j : ℕ) {e f n d : ℕ} → i < t.end i → e ≡ t.end i → f ≡ t.end j → e + j ≡ f + i → n ≡ e - i → d < n → (d < t.end i - i) × (d < t.end j - j)
before-ends t i j l a b q m h = (omega arith, omega arith)

pub returns-then-e-j : goal.returns-then-e-j
returns-then-e-j c = λ W. let a = c.end-e.ensures W in let d = c.end-f.ensures W in type-size (tree_of W) c.args.i c.args.j (λ e. c.if-e-j.true (omega arith))

pub returns-then-not-same_node : goal.returns-then-not-same_node
returns-then-not-same_node c =
    let before-end = λ (W : View c.args.nodes.now 0). before-ends (tree_of W) c.args.i c.args.j (past W c.requires.1).0 (c.end-e.ensures W) (c.end-f.ensures W) c.if-e-j.false refl c.loop-d-test.true in
    λ W. type_node (tree_of W) c.args.i c.args.j c.loop-d.d (before-end W).0 (sym c.if-not-same_node.true ∙ c.same_node.ensures W)

pub returns : goal.returns
returns c = λ W. let a = c.end-e.ensures W in let f = c.end-f.ensures W in let q = c.if-e-j.false in let g = c.loop-d-test.false in let h = c.loop-d.invariant.0 in type-same (tree_of W) c.args.i c.args.j c.loop-d.d (omega arith) (omega arith) (omega arith) (c.loop-d.invariant.1 W)

pub overflow_sub-n : goal.overflow_sub-n
overflow_sub-n c = let P = c.requires in let a = c.end-e.ensures P.0 in let f = (past P.0 P.1).0 in omega arith

pub loop-d-init : goal.loop-d-init
loop-d-init c = (omega arith, λ W. every-none _)

pub overflow_add-i : goal.overflow_add-i
overflow_add-i c =
    let before-end = λ (W : View c.args.nodes.now 0). before-ends (tree_of W) c.args.i c.args.j (past W c.requires.1).0 (c.end-e.ensures W) (c.end-f.ensures W) c.if-e-j.false refl c.loop-d-test.true in
    let P = c.requires in let b = (before-end P.0).0 in let h = (few-nodes P.0 P.1).1 in omega arith

pub overflow_add-j : goal.overflow_add-j
overflow_add-j c =
    let before-end = λ (W : View c.args.nodes.now 0). before-ends (tree_of W) c.args.i c.args.j (past W c.requires.1).0 (c.end-e.ensures W) (c.end-f.ensures W) c.if-e-j.false refl c.loop-d-test.true in
    let P = c.requires in let b = (before-end P.0).1 in let h = (few-nodes P.0 P.2).1 in omega arith

pub same_node-requires : goal.same_node-requires
same_node-requires c =
    let before-end = λ (W : View c.args.nodes.now 0). before-ends (tree_of W) c.args.i c.args.j (past W c.requires.1).0 (c.end-e.ensures W) (c.end-f.ensures W) c.if-e-j.false refl c.loop-d-test.true in
    let P = c.requires in let b = before-end P.0 in (P.0, type-nodes P.0 P.1 c.loop-d.d b.0, type-nodes P.0 P.2 c.loop-d.d b.1)

pub loop-d-preserved : goal.loop-d-preserved
loop-d-preserved c = let g = c.loop-d-test.true in (omega arith, λ W. every_more _ c.loop-d.d (c.loop-d.invariant.1 W) (sym (c.same_node.ensures W) ∙ c.if-not-same_node.false))
