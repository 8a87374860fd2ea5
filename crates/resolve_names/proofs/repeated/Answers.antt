-- `repeated` meets its contract: a walk over the items and the fields of the contract, with the first of each name noted.
use native.Mathlib.Omega.{arith}
use Prim.Native.Nat.{◌+◌}
use Rattle.rules.specs.Tree.{declarations}
use Rattle.records.proofs.Laws.{asked-at-or}
use Rattle.nodes.proofs.Shapes.{one_in}
use Rattle.nodes.proofs.Declared.{begun, at-first, ends-at, turn, ended, declared-on}
use Rattle.nodes.proofs.Steps.{below-starts, below-done}
use Rattle.resolve_names.proofs.Lent.{among-all, no-entry}
use Rattle.resolve_names.proofs.repeated.Goals as goal

pub loop-p-init : goal.loop-p-init
loop-p-init c =
    let e = c.into_iter-p-iterator.ensures.into_iter_gives in
    let b = c.of-p-items.ensures in
    (begun e b, rw (at-first e b) (below-starts 0 c.requires.1 c.requires.2 (ends-at e b)))

pub met-requires : goal.met-requires
met-requires c =
    let W = c.requires.1 in
    let i = c.loop-p.invariant in
    let t = turn {t = c.next.new.self} i.0 c.in-Some.ensures.steps in
    let w = rw (← t.is) at i.1 in
    let h = t.before in
    let d = ends-at c.into_iter-p-iterator.ensures.into_iter_gives c.of-p-items.ensures W in
    (c.requires.0.0, among-all W c.note_names.ensures w.sweep.low (omega arith), t.here, omega arith)

pub loop-p-preserved : goal.loop-p-preserved
loop-p-preserved c =
    let P = c.requires in
    let i = c.loop-p.invariant in
    let t = turn i.0 c.in-Some.ensures.steps in
    let w = rw (← t.is) at i.1 in
    let l = w.sweep.low in
    let h = t.before in
    let d = ends-at c.into_iter-p-iterator.ensures.into_iter_gives c.of-p-items.ensures in
    let k = c.args.code in (
      t.still,
      declared-on (one_in _ declarations P.0.1) P.1 P.2 d w h t.here t.moved
          (asked-at-or (λ W. let e = d W in among-all W c.note_names.ensures l (omega arith)) k (c.in-Some.p + 1) (λ W. no-entry _ k _ W t.here l P.0.0 P.4) c.met.result (c.met.ensures k) c.emit_hit-total.ensures),
    )

pub returns : goal.returns
returns c = let i = c.loop-p.invariant in below-done 0 i.1 (ended i.0 c.in-None.ensures.steps.2) (ends-at c.into_iter-p-iterator.ensures.into_iter_gives c.of-p-items.ensures)
