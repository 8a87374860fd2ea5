-- `track` meets its contract: a walk from part to part of the entry, with the rows of the parts before.
use native.Mathlib.Omega.{arith}
use Prim.Native.Nat.{◌+◌, ◌<◌}
use mathlib.Core.Path.{refl}
use Rattle.rules.specs.Sweep.{has}
use Rattle.rules.specs.Tree.{«let», param_let}
use Rattle.rules.specs.Linear.{rule60}
use Rattle.records.proofs.Laws.{added-by}
use Rattle.records.proofs.Sweep.{sweep-starts, sweep-on, swept, run-below, keep-none}
use Rattle.nodes.specs.Shown.{View, tree_of}
use Rattle.nodes.proofs.Spans.{span_below, child-on}
use Rattle.nodes.proofs.Shapes.{all_in, skips-parts}
use Rattle.nodes.proofs.Iterated.{begun, at-first, ends-at, turn, ended}
use Rattle.linear_tracked.proofs.Walk.{walk-starts, walk-on, walk-done, part_at, part_held}
use Rattle.linear_tracked.proofs.track.Goals as goal

pub loop-part-init : goal.loop-part-init
loop-part-init c =
    let T = c.requires.0 in
    let W = T.known.view in
    let e = c.into_iter-part-iterator.ensures.into_iter_gives in
    let b = c.of-part-items.ensures in
    let at = at-first e b.0 in
    let S = span_below W T.here (ends-at c.args.entry e b.1 W) in
    (begun e b.0, S, omega arith, (λ T. rw at (walk-starts T.known.view.image c.args.entry T.rows)), rw at (sweep-starts S.order))

pub take_part-tracked-requires : goal.take_part-tracked-requires
take_part-tracked-requires c =
    let T = c.requires.0 in
    let W = T.known.view in
    let i = c.loop-part.invariant in
    let t = turn {t = c.next.new.self} i.0 c.in-Some.ensures.steps in
    let is = t.is in
    let before = t.before in
    let to = ends-at c.args.entry c.into_iter-part-iterator.ensures.into_iter_gives c.of-part-items.ensures.1 W in
    let l = i.4.low in
    let f = i.2 in
    let g = i.4.few in
    let u = i.1.under in
    (part_at T (omega arith) (omega arith) (rw (← is) at (i.3 T)), T.here.2, omega arith, omega arith)

pub loop-part-preserved : goal.loop-part-preserved
unfolding all_in has
loop-part-preserved c =
    let T₀ = c.requires.0 in
    let e = c.args.entry in
    let i = c.loop-part.invariant in
    let t = turn i.0 c.in-Some.ensures.steps in
    let is = t.is in
    let to = ends-at e c.into_iter-part-iterator.ensures.into_iter_gives c.of-part-items.ensures.1 in
    let inside : (W : View c.args.nodes.now 0) → (e < c.in-Some.part) × (c.in-Some.part < (tree_of W).end e) = λ W. let l = i.4.low in let h = t.before in let d = to W in (omega arith, omega arith) in
    let W₀ = T₀.known.view in
    let m = child-on W₀ T₀.here (to W₀) (inside W₀).0 t.before (t.moved W₀) in
    let rows = rw (← is) at i.3 in
    let r = c.take_part-tracked.ensures in (
      t.still,
      i.1,
      let d = inside W₀ in let f = (r.takes_row (part_at T₀ d.0 d.1 (rows T₀))).0 in let e = t.moved W₀ in let g = i.2 in omega arith,
      (λ T.
          let W = T.known.view in
          let d = inside W in
          walk-on W.image e d.0 m.0 (λ j a z. skips-parts param_let refl W T.here (let y = T.is_entry.after in omega arith) d.0 d.1 (t.moved W) j a z) ((r.takes_row (part_at T d.0 d.1 (rows T))).1 _ (rows T))),
      sweep-on (rw (← is) at i.4) (added-by (λ T. let d = inside T.known.view in part_held T d.0 d.1 (part_at T d.0 d.1 (rows T))) (λ T. refl) r.adds) m.0 m.1
          (λ T j a z. let W = T.known.view in let d = inside W in keep-none _ j (skips-parts «let» refl W T.here (let y = T.is_entry.after in omega arith) d.0 d.1 (t.moved W) j a z)),
    )

pub returns : goal.returns
returns c =
    let i = c.loop-part.invariant in
    let e = c.args.entry in
    let l = ended i.0 c.in-None.ensures.steps.3 in
    let to = ends-at e c.into_iter-part-iterator.ensures.into_iter_gives c.of-part-items.ensures.1 in
    let h = i.4.high in
    let f = i.2 in
    let u = i.1.under in record {
      rows_bound = (omega arith, λ T. let W = T.known.view in let d = to W in (omega arith, walk-done W.image e (omega arith) (i.3 T)));
      adds = swept i.4 l (λ T. let t = tree_of T.known.view in run-below t «let» (rule60 t e) e (e + 1) _ refl (to T.known.view)) (omega arith);
    }
