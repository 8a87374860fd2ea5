-- `first_of` meets its contract: the verdict of the first record.
use Rattle.passes.proofs.Laws.{judged-admitted}
use Rattle.passes.proofs.first_of.Goals as goal

pub returns : goal.returns
returns c = judged-admitted c.args.pass _ c.requires.admitted (c.judge.ensures _ _ (c.list_of-count.ensures.laid tt))
