-- The loop of `drive`: the steps that are left, from the rows as they now stand, give what all the steps give from the rows that were lent.
use Rattle.std.specs.Prelude.{◌≡◌, ◌<◌}
use Rattle.linear_lent.specs.Lent.{ran, drove}
use Rattle.linear_lent.proofs.drive.Given as goal

abbrev pub invariant-loop-c : goal.invariant-loop-c
invariant-loop-c l = record {
  at_in : l.c.at < 511;
  same : drove l.cells l.c.left l.c l.rows ≡ ran l.fn.cells l.fn.rows;
}

abbrev pub decreases-loop-c : goal.decreases-loop-c
decreases-loop-c l = l.c.left
