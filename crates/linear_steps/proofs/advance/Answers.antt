-- `advance` meets its contract: a row of the cells, or a blank one behind the row that is judged.
use borrow.Author.Tests.{le-leb, lt-leb}
use Rattle.linear_steps.specs.Step.{step_of}
use Rattle.linear_steps.proofs.advance.Goals as goal

pub returns-then-c-ge512 : goal.returns-then-c-ge512
unfolding step_of
returns-then-c-ge512 c = simp (c.row_in-row.ensures, c.next-state.ensures, le-leb 512 c.args.c.left c.if-c-ge512.true)

pub returns : goal.returns
unfolding step_of
returns c = simp (c.next-state-2.ensures, c.judge_row.ensures, c.blank_row-cleared.ensures, lt-leb 512 c.args.c.left c.if-c-ge512.false)
