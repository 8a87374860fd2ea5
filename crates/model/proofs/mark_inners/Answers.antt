-- `mark_inners` meets its contract: a walk from item to item.
use native.Mathlib.Omega.{arith}
use Rattle.nodes.proofs.Parts.{past}
use Rattle.nodes.proofs.Spans.{child-on}
use Rattle.nodes.proofs.Iterated.{begun, at-first, ends-at, turn, ended}
use Rattle.model.proofs.Items.{asked-none, asked-on, asked-all}
use Rattle.model.proofs.mark_inners.Goals as goal

pub loop-item-init : goal.loop-item-init
loop-item-init c =
    let W = c.requires.0.view in
    let e = c.into_iter-item-iterator.ensures.into_iter_gives in
    let b = c.of-item-items.ensures in
    let f = at-first e b.0 in
    let d = ends-at 0 e b.1 W in
    let p = past W c.requires.1 in
    (begun e b.0, omega arith, omega arith, rw f asked-none)

pub loop-item-preserved : goal.loop-item-preserved
loop-item-preserved c =
    let W = c.requires.0.view in
    let i = c.loop-item.invariant in
    let t = turn i.0 c.in-Some.ensures.steps in
    let d = ends-at 0 c.into_iter-item-iterator.ensures.into_iter_gives c.of-item-items.ensures.1 in
    let l = rw (← t.is) at i.1 in
    let m = child-on W c.requires.1 (d W) l t.before (t.moved W) in
    (t.still, omega arith, m.1, asked-on (rw (← t.is) at i.3) c.mark_item.ensures l (omega arith) (λ A. t.moved A.view))

pub returns : goal.returns
returns c =
    let i = c.loop-item.invariant in
    let i2 = i.2 in
    let d = ends-at 0 c.into_iter-item-iterator.ensures.into_iter_gives c.of-item-items.ensures.1 in
    let l = ended i.0 c.in-None.ensures.steps.3 in
    asked-all i.3 (λ A. let e = d A.view in omega arith)
