-- `find_items` meets its contract: of the kinds that are not found, no item stands before the one at hand.
use native.Mathlib.Omega.{arith}
use mathlib.Core.Path.{refl, sym}
use mathlib.Core.Bool.{true≢false}
use Rattle.rules.specs.Sweep.{has}
use Rattle.rules.specs.Tree.{event, genesis}
use Rattle.nodes.specs.Shown.{tree_of}
use Rattle.nodes.proofs.Parts.{past}
use Rattle.nodes.proofs.Spans.{child-on}
use Rattle.nodes.proofs.Iterated.{begun, at-first, ends-at, turn, ended}
use Rattle.items.proofs.Glance.{glanced, glanced-some, within_end}
use Rattle.items.proofs.find_items.Goals as goal

pub loop-item-init : goal.loop-item-init
loop-item-init c =
    let W = c.requires.0 in
    let e = c.into_iter-item-iterator.ensures.into_iter_gives in
    let b = c.of-item-items.ensures in
    let f = at-first e b.0 in
    let d = ends-at 0 e b.1 W in
    let p = past W c.requires.1 in
    (begun e b.0, omega arith, omega arith, (λ z Y i l h. absurd (omega arith)), (λ z Y i l h. absurd (omega arith)), (λ z. absurd (true≢false (sym z))), (λ z. absurd (true≢false (sym z))))

pub loop-item-preserved : goal.loop-item-preserved
unfolding has
loop-item-preserved c =
    let P = c.requires in
    let i = c.loop-item.invariant in
    let t = turn i.0 c.in-Some.ensures.steps in
    let d = ends-at 0 c.into_iter-item-iterator.ensures.into_iter_gives c.of-item-items.ensures.1 in
    let l = rw (← t.is) at i.1 in
    let m = child-on P.0 P.1 (d P.0) l t.before (t.moved P.0) in
    let w = c.with_item-items.ensures in (
      t.still,
      omega arith,
      m.1,
      (λ z W. glanced 5 refl _ w.0 t.here l W (c.kind.ensures W) (λ y. rw (← t.is) at (i.3 y W)) (t.moved W) z),
      (λ z W. glanced 7 refl _ w.1 t.here l W (c.kind.ensures W) (λ y. rw (← t.is) at (i.4 y W)) (t.moved W) z),
      (λ z W. glanced-some 5 _ w.0 l W (c.kind.ensures W) (λ y. rw (← t.is) at (i.5 y W)) m.0 z),
      (λ z W. glanced-some 7 _ w.1 l W (c.kind.ensures W) (λ y. rw (← t.is) at (i.6 y W)) m.0 z),
    )

pub returns : goal.returns
returns c =
    let i = c.loop-item.invariant in
    let d = ends-at 0 c.into_iter-item-iterator.ensures.into_iter_gives c.of-item-items.ensures.1 in
    let l = ended i.0 c.in-None.ensures.steps.3 in
    record {
      no_event = λ z W j a b. let e = d W in i.3 z W j a (omega arith);
      no_genesis = λ z W j a b. let e = d W in i.4 z W j a (omega arith);
      some_event = λ z W. within_end (tree_of W) event (d W) i.2 (i.5 z W);
      some_genesis = λ z W. within_end (tree_of W) genesis (d W) i.2 (i.6 z W);
    }
