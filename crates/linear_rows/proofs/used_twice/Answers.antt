-- `used_twice` meets its contract: not over one, or the related word.
use Rattle.linear_rows.proofs.Judged.{marks-cell, once, twice}
use Rattle.linear_rows.proofs.used_twice.Goals as goal

pub returns-then-cell-le1 : goal.returns-then-cell-le1
returns-then-cell-le1 c = λ p. let d = c.args in once _ (marks-cell d.tallies.now d.row c.cell.ensures.0) c.cell-2.ensures.0 c.if-cell-le1.true

pub returns : goal.returns
returns c = λ p. let d = c.args in twice _ (marks-cell d.tallies.now d.row c.cell.ensures.0) c.cell-2.ensures.0 c.if-cell-le1.false
