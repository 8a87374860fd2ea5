-- `stand` meets its contract: row by row; those before k stand in the table, and their tallies are blank.
use Rattle.linear_rows.proofs.Judged.{Blanked}
use Rattle.linear_table.proofs.Walk.{Standing}
use Rattle.linear_table.proofs.stand.Given as goal

abbrev pub invariant-loop-k : goal.invariant-loop-k
invariant-loop-k l = Blanked l.initial.tallies l.k l.tallies × Standing l.nodes l.n l.places l.initial.tallies l.total l.initial.table l.k l.table
