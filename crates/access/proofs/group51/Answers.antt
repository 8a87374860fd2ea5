-- `group51` meets its contract: a walk from item to item, with no name marked between them.
use borrow.Author.Rules.{rules}
use mathlib.Core.Path.{refl}
use Rattle.rules.specs.Sweep.{has}
use Rattle.rules.specs.Access.{group51}
use Rattle.records.proofs.Laws.{added-by}
use Rattle.nodes.proofs.Shapes.{all_in}
use Rattle.nodes.proofs.Iterated.{begun, at-first, ends-at, turn, ended}
use Rattle.nodes.proofs.Steps.{items-on, below-starts, below-done}
use Rattle.access.proofs.Lent.{cleaned}
use Rattle.access.proofs.group51.Goals as goal

pub loop-item-init : goal.loop-item-init
loop-item-init c =
    let T = c.requires.0 in
    let e = c.into_iter-item-iterator.ensures.into_iter_gives in
    let b = c.of-item-items.ensures in
    (begun e b.0, rw (at-first e b.0) (below-starts 0 T T.root (ends-at 0 e b.1)), λ T. T.clean)

pub entry-total-requires : goal.entry-total-requires
entry-total-requires c =
    let T = c.requires.0 in
    let i = c.loop-item.invariant in
    let t = turn {t = c.next.new.self} i.0 c.in-Some.ensures.steps in
    (cleaned T (i.2 T), t.here, rw (← t.is) at i.1.sweep.low, search rules)

pub loop-item-preserved : goal.loop-item-preserved
unfolding all_in has
loop-item-preserved c =
    let T = c.requires.0 in
    let i = c.loop-item.invariant in
    let t = turn i.0 c.in-Some.ensures.steps in
    let d = ends-at 0 c.into_iter-item-iterator.ensures.into_iter_gives c.of-item-items.ensures.1 in
    let n = c.entry-total.ensures in
    (t.still, items-on refl T T.root d (rw (← t.is) at i.1) t.before t.moved (added-by (λ T. cleaned T (i.2 T)) (λ T. refl) n.adds), λ T. n.cleans_written (cleaned T (i.2 T)))

pub returns : goal.returns
unfolding group51
returns c = let i = c.loop-item.invariant in below-done 0 i.1 (ended i.0 c.in-None.ensures.steps.3) (ends-at 0 c.into_iter-item-iterator.ensures.into_iter_gives c.of-item-items.ensures.1)
