-- `items32` meets its contract: a walk from item to item.
use native.Mathlib.Omega.{arith}
use mathlib.Core.Path.{refl}
use Rattle.rules.specs.Sweep.{has}
use Rattle.nodes.proofs.Shapes.{all_in}
use Rattle.nodes.proofs.Iterated.{begun, at-first, ends-at, turn, ended}
use Rattle.nodes.proofs.Steps.{items-on, below-starts, below-done}
use Rattle.rules.specs.Resolve.{group32}
use Rattle.resolve_deployer.proofs.items32.Goals as goal

pub item32-total-requires : goal.item32-total-requires
item32-total-requires c =
    let i = c.loop-item.invariant in
    let t = turn {t = c.next.new.self} i.0 c.in-Some.ensures.steps in
    let w = i.1 in
    let f = w.sweep.few in
    let u = w.span.under in
    let h = w.sweep.high in
    let m = w.sweep.low in
    let l = c.requires.2 in
    (c.requires.0, t.here, rw (← t.is) at m, omega arith)

pub loop-item-init : goal.loop-item-init
loop-item-init c =
    let e = c.into_iter-item-iterator.ensures.into_iter_gives in
    let b = c.of-item-items.ensures in
    (begun e b.0, rw (at-first e b.0) (below-starts 0 c.requires.0 c.requires.1 (ends-at 0 e b.1)))

pub loop-item-preserved : goal.loop-item-preserved
unfolding all_in has
loop-item-preserved c =
    let P = c.requires in
    let i = c.loop-item.invariant in
    let t = turn i.0 c.in-Some.ensures.steps in
    let d = ends-at 0 c.into_iter-item-iterator.ensures.into_iter_gives c.of-item-items.ensures.1 in
    (t.still, items-on refl P.0 P.1 d (rw (← t.is) at i.1) t.before t.moved c.item32-total.ensures)

pub returns : goal.returns
unfolding group32
returns c = let i = c.loop-item.invariant in below-done 0 i.1 (ended i.0 c.in-None.ensures.steps.3) (ends-at 0 c.into_iter-item-iterator.ensures.into_iter_gives c.of-item-items.ensures.1)
