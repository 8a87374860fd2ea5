-- `linear` meets its contract: what the steps find in the table of the image is what the pass finds.
use Rattle.linear_lent.proofs.Judged.{found-admitted, judged-in}
use Rattle.linear_lent.proofs.linear.Goals as goal

pub answer-requires : goal.answer-requires
answer-requires c = found-admitted c.args.rows.now c.table_of-cells.ensures c.requires c.drive-c.ensures.0

pub returns : goal.returns
returns c = judged-in c.args.rows.now c.table_of-cells.ensures c.requires c.drive-c.ensures.0 c.drive-c.ensures.1 c.answer.ensures
