-- `judge` meets its contract: the rows in order; those before `row` are blank.
use native.Mathlib.Omega.{arith}
use Prim.Native.Nat.{◌-◌}
use mathlib.Core.Path.{◌≡◌, ap}
use Rattle.rules.specs.Sweep.{run}
use Rattle.records.proofs.Laws.{added-as}
use Rattle.records.proofs.Sweep.{sweep-starts, sweep-again, swept, sweep-long}
use Rattle.linear_rows.specs.Tallies.{judged_at}
use Rattle.linear_rows.proofs.Judged.{blanked-none, blanked-on, judged-ahead}
use Rattle.linear_rows.proofs.judge.Goals as goal

pub loop-row-init : goal.loop-row-init
loop-row-init c = (blanked-none _, sweep-starts (omega arith))

pub judge_row-total-requires : goal.judge_row-total-requires
judge_row-total-requires c = let f = c.loop-row.invariant.1.few in let h = c.loop-row-test.true in let p = c.requires in (p.0, omega arith, omega arith)

pub loop-row-preserved : goal.loop-row-preserved
loop-row-preserved c =
    let i = c.loop-row.invariant in
    (blanked-on i.0 c.judge_row-total.ensures.tallies_value, sweep-again i.1 (added-as (λ x. judged-ahead i.0 c.args.places.now) c.judge_row-total.ensures.adds) c.loop-row-test.true)

pub shape_of-out : goal.shape_of-out
shape_of-out c = sweep-long c.loop-row.invariant.1 tt

pub returns : goal.returns
returns c =
    let i = c.loop-row.invariant in
    let h = i.1.high in
    let l = c.loop-row-test.false in
    let n = c.args.n in
    let e : c.loop-row.row ≡ n = omega arith in
    let z : n - 0 ≡ n = omega arith in
    let B = rw e at i.0 in
    record { adds = swept i.1 l (λ x. ap (run (judged_at c.args.places.now c.args.tallies.now) 0) z) (let p = c.requires in omega arith); blanks = (B.size, B.cells) }
