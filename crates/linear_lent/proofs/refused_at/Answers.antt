-- `refused_at` meets its contract: an admitted image is not refused.
use Rattle.linear_lent.proofs.Answers.{is-read}
use Rattle.linear_lent.proofs.refused_at.Goals as goal

pub returns-in_err-head : goal.returns-in_err-head
returns-in_err-head c = λ f d e. absurd (is-read c.args.image.now c.requires.1 _ c.read.ensures c.in_err-head.ensures.value)
