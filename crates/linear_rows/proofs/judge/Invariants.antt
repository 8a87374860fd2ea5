-- `judge` meets its contract: the rows in order; those before `row` are blank.
use Rattle.records.proofs.Sweep.{Sweeping}
use Rattle.linear_rows.specs.Tallies.{judged_at}
use Rattle.linear_rows.proofs.Judged.{Blanked}
use Rattle.linear_rows.proofs.judge.Given as goal

abbrev pub invariant-loop-row : goal.invariant-loop-row
invariant-loop-row l = Blanked l.initial.tallies l.row l.tallies × Sweeping (λ (_ : Unit {0}) _. l.entry) (λ _. judged_at l.places l.initial.tallies) 0 l.n 2 l.initial.out l.count l.out l.total l.row
