-- `drive` meets its contract: each turn takes a step, and where none is left all have been taken.
use Rattle.std.proofs.Common.{arith, ap, ◌∙◌}
use Rattle.std.specs.Prelude.{List}
use Rattle.linear_table.specs.declared.Row.{Row}
use Rattle.linear_steps.specs.declared.State.{State}
use Rattle.linear_lent.specs.Lent.{drove}
use Rattle.linear_lent.proofs.Steps.{start-in, none_left, falls, stays-in, stepped}
use Rattle.linear_lent.proofs.drive.Goals as goal

pub loop-c-init : goal.loop-c-init
loop-c-init c = record {
  at_in = rw c.start-c.ensures (start-in c.args.cells.now);
  same = ap (λ (d : State). drove c.args.cells.now d.left d c.args.rows.now) c.start-c.ensures;
}

pub loop-c-smaller : goal.loop-c-smaller
loop-c-smaller c = falls c.args.cells.now c.loop-c.c c.loop-c.rows c.advance-t.result c.advance-t.ensures c.loop-c-test.true

pub loop-c-preserved : goal.loop-c-preserved
loop-c-preserved c = record {
  at_in = stays-in c.args.cells.now c.loop-c.c c.loop-c.rows c.advance-t.result c.advance-t.ensures c.loop-c-test.true c.loop-c.invariant.at_in;
  same = stepped c.args.cells.now c.loop-c.c c.loop-c.rows c.advance-t.result c.advance-t.ensures c.loop-c-test.true ∙ c.loop-c.invariant.same;
}

pub returns : goal.returns
returns c =
    let e = none_left c.args.cells.now c.loop-c.c c.loop-c.rows (omega (arith, c.loop-c-test.false)) ∙ c.loop-c.invariant.same in
    (ap (λ (p : State × List Row). p.0) e, ap (λ (p : State × List Row). p.1) e)
