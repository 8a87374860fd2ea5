-- `arguments` meets its contract: one child of the Emit after another is counted.
use native.Mathlib.Omega.{arith}
use Rattle.nodes.proofs.Spans.{span_of}
use Rattle.nodes.proofs.Iterated.{begun, at-first, ends-at, turn, ended}
use Rattle.resolve_emits.proofs.Counting.{counting-starts, counting-on, counting-done}
use Rattle.resolve_emits.proofs.arguments.Goals as goal

pub loop-argument-init : goal.loop-argument-init
loop-argument-init c =
    let P = c.requires in
    let e = c.into_iter-argument-iterator.ensures.into_iter_gives in
    let b = c.from-argument-items.ensures in
    let d = ends-at c.args.emit e b.1 in
    (begun e b.0, span_of P.0 P.1.0 (d P.0), rw (at-first e b.0) (counting-starts P.0 P.1 d))

pub overflow_add-number : goal.overflow_add-number
overflow_add-number c = let i = c.loop-argument.invariant in let f = i.2.few in let h = i.2.high in let u = i.1.under in omega arith

pub loop-argument-preserved : goal.loop-argument-preserved
loop-argument-preserved c =
    let P = c.requires in
    let i = c.loop-argument.invariant in
    let t = turn i.0 c.in-Some.ensures.steps in
    let d = ends-at c.args.emit c.into_iter-argument-iterator.ensures.into_iter_gives c.from-argument-items.ensures.1 in
    (t.still, i.1, counting-on P.0 P.1 d (rw (← t.is) at i.2) t.before t.moved)

pub returns : goal.returns
returns c =
    let P = c.requires in
    let i = c.loop-argument.invariant in
    let d = ends-at c.args.emit c.into_iter-argument-iterator.ensures.into_iter_gives c.from-argument-items.ensures.1 in
    counting-done P.0 P.1 d i.2 (ended i.0 c.in-None.ensures.steps.3)
