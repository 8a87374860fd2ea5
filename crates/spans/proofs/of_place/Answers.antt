-- `of_place` meets its contract: the two words of the node, 0 past the last.
use borrow.Author.Rules.{rules}
use native.Mathlib.Omega.{arith}
use Prim.Native.Nat.{ℕ, ◌+◌, ◌*◌}
use mathlib.Core.Path.{ap, ◌∙◌}
use mathlib.Core.List.{List}
use Rattle.image.specs.Node.{full_word}
use Rattle.image.specs.Text.{slice}
use Rattle.nodes.proofs.Heads.{bounds}
use Rattle.spans.proofs.Laws.{node-area, no_word}
use Rattle.spans.proofs.of_place.Goals as goal

pub returns-then-n-place : goal.returns-then-n-place
returns-then-n-place c =
    let p = c.args.place in
    let H = c.requires in
    (no_word H p 8 c.if-n-place.true, no_word H p 12 c.if-n-place.true, omega arith, omega arith)

pub returns : goal.returns
returns c =
    let H = c.requires in
    let p = c.args.place in
    let s = c.args.image.now in
    let F = c.span_from-from.ensures in
    let T = c.span_to-to.ensures in
    let e = c.names_at-end.ensures in
    (F.0 ∙ ap (λ (n : ℕ). full_word (slice s 24 n) (16 * p + 8)) e ∙ ap (λ (v : List ℕ). full_word v (16 * p + 8)) (node-area H), T.0 ∙ ap (λ (n : ℕ). full_word (slice s 24 n) (16 * p + 12)) e ∙ ap (λ (v : List ℕ). full_word v (16 * p + 12)) (node-area H), F.1, T.1)

pub names_at-end-requires : goal.names_at-end-requires
names_at-end-requires c = let h = bounds c.requires in omega arith

pub slice_bounds-nodes-start : goal.slice_bounds-nodes-start
slice_bounds-nodes-start c = let h = bounds c.requires in let e = c.names_at-end.ensures in omega arith

pub slice_bounds-nodes-end : goal.slice_bounds-nodes-end
slice_bounds-nodes-end c = let h = bounds c.requires in let e = c.names_at-end.ensures in omega arith

pub span_from-from-requires : goal.span_from-from-requires
span_from-from-requires c = let h = bounds c.requires in let e = c.names_at-end.ensures in search rules
