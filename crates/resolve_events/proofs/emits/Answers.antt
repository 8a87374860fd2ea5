-- `emits` meets its contract: a walk from item to item.
use Rattle.rules.specs.Resolve.{emits}
use Rattle.nodes.proofs.Steps.{items-on, below-starts, below-done}
use Rattle.nodes.proofs.Iterated.{begun, at-first, ends-at, turn, ended}
use Rattle.resolve_events.proofs.Lent.{is-item}
use Rattle.resolve_events.proofs.emits.Goals as goal

pub loop-node-init : goal.loop-node-init
loop-node-init c =
    let T = c.requires.0 in
    let e = c.into_iter-node-iterator.ensures.into_iter_gives in
    let b = c.of-node-items.ensures in
    (begun e b.0, rw (at-first e b.0) (below-starts 0 T T.root (ends-at 0 e b.1)))

pub loop-node-preserved : goal.loop-node-preserved
loop-node-preserved c =
    let P = c.requires in
    let i = c.loop-node.invariant in
    let t = turn i.0 c.in-Some.ensures.steps in
    let d = ends-at 0 c.into_iter-node-iterator.ensures.into_iter_gives c.of-node-items.ensures.1 in
    (t.still, items-on (is-item _ P.1) P.0 P.0.root d (rw (← t.is) at i.1) t.before t.moved c.item-total.ensures)

pub returns : goal.returns
unfolding emits
returns c = let i = c.loop-node.invariant in below-done 0 i.1 (ended i.0 c.in-None.ensures.steps.3) (ends-at 0 c.into_iter-node-iterator.ensures.into_iter_gives c.of-node-items.ensures.1)
