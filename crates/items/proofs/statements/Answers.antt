-- `statements` meets its contract: the bytes from the first statement on show the statements.
use native.Mathlib.Omega.{arith}
use mathlib.Core.Path.{refl}
use Prim.Native.Nat.{◌<◌, ◌≤◌}
use Rattle.nodes.proofs.Parts.{lent-shown}
use Rattle.nodes.proofs.Spans.{Span, span-body}
use Rattle.items.proofs.statements.Goals as goal

pub overflow_sub-from : goal.overflow_sub-from
overflow_sub-from c = let s = span-body c.requires c.requires.view refl in omega arith

pub overflow_mul-from : goal.overflow_mul-from
overflow_mul-from c = let s = span-body c.requires c.requires.view refl in omega arith

pub overflow_sub-to : goal.overflow_sub-to
overflow_sub-to c =
    let lies : Span c.args.nodes.now c.args.base c.args.first c.end.result × (c.args.entry < c.args.first) × (c.args.base ≤ c.args.entry) = let B = c.requires in span-body B B.view (c.end.ensures B.view) in
    let s = lies in omega arith

pub overflow_mul-to : goal.overflow_mul-to
overflow_mul-to c =
    let lies : Span c.args.nodes.now c.args.base c.args.first c.end.result × (c.args.entry < c.args.first) × (c.args.base ≤ c.args.entry) = let B = c.requires in span-body B B.view (c.end.ensures B.view) in
    let s = lies in omega arith

pub slice_bounds-result-count : goal.slice_bounds-result-count
slice_bounds-result-count c =
    let lies : Span c.args.nodes.now c.args.base c.args.first c.end.result × (c.args.entry < c.args.first) × (c.args.base ≤ c.args.entry) = let B = c.requires in span-body B B.view (c.end.ensures B.view) in
    let s = lies in omega arith

pub slice_bounds-result-start : goal.slice_bounds-result-start
slice_bounds-result-start c =
    let lies : Span c.args.nodes.now c.args.base c.args.first c.end.result × (c.args.entry < c.args.first) × (c.args.base ≤ c.args.entry) = let B = c.requires in span-body B B.view (c.end.ensures B.view) in
    let s = lies in omega arith

pub slice_bounds-result-end : goal.slice_bounds-result-end
slice_bounds-result-end c =
    let lies : Span c.args.nodes.now c.args.base c.args.first c.end.result × (c.args.entry < c.args.first) × (c.args.base ≤ c.args.entry) = let B = c.requires in span-body B B.view (c.end.ensures B.view) in
    let s = lies in omega arith

pub returns : goal.returns
returns c = λ W. let s = span-body c.requires W refl in rw (c.end.ensures W) (lent-shown W c.requires.here s.1 s.0.order)
