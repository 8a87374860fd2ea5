-- `group24` meets its contract: a walk from item to item, with nothing noted between them.
use native.Mathlib.Omega.{arith}
use mathlib.Core.Path.{refl}
use Rattle.rules.specs.Sweep.{has}
use Rattle.rules.specs.Resolve.{group24}
use Rattle.records.proofs.Laws.{added-by}
use Rattle.nodes.proofs.Shapes.{all_in}
use Rattle.nodes.proofs.Steps.{items-on, below-starts, below-done}
use Rattle.nodes.proofs.Iterated.{begun, at-first, ends-at, turn, ended}
use Rattle.resolve_params.proofs.Lent.{fresh, cleaned}
use Rattle.resolve_params.proofs.group24.Goals as goal

pub loop-item-init : goal.loop-item-init
loop-item-init c =
    let e = c.into_iter-item-iterator.ensures.into_iter_gives in
    let b = c.of-item-items.ensures in
    (begun e b.0, rw (at-first e b.0) (below-starts 0 c.requires.0 c.requires.1 (ends-at 0 e b.1)), λ T. fresh T)

pub entry-total-requires : goal.entry-total-requires
entry-total-requires c =
    let T = c.requires.0 in
    let i = c.loop-item.invariant in
    let t = turn {t = c.next.new.self} i.0 c.in-Some.ensures.steps in
    let z = t.is in
    let l = i.1.sweep.low in
    let f = i.1.sweep.few in
    let u = i.1.span.under in
    let n = c.requires.2 in
    (cleaned T (i.2 T), t.here, omega arith, omega arith)

pub loop-item-preserved : goal.loop-item-preserved
unfolding all_in has
loop-item-preserved c =
    let P = c.requires in
    let i = c.loop-item.invariant in
    let t = turn i.0 c.in-Some.ensures.steps in
    let d = ends-at 0 c.into_iter-item-iterator.ensures.into_iter_gives c.of-item-items.ensures.1 in (
      t.still,
      items-on refl P.0 P.1 d (rw (← t.is) at i.1) t.before t.moved (added-by (λ T. cleaned T (i.2 T)) (λ T. refl) c.entry-total.ensures.adds),
      λ T. c.entry-total.ensures.cleans_noted (cleaned T (i.2 T)),
    )

pub returns : goal.returns
unfolding group24
returns c = let i = c.loop-item.invariant in below-done 0 i.1 (ended i.0 c.in-None.ensures.steps.3) (ends-at 0 c.into_iter-item-iterator.ensures.into_iter_gives c.of-item-items.ensures.1)
