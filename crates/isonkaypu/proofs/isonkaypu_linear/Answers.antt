-- `isonkaypu_linear` meets its contract: the pass's numbers.
use Rattle.isonkaypu.proofs.Laws.{gives_as}
use Rattle.isonkaypu.proofs.isonkaypu_linear.Goals as goal

pub returns : goal.returns
returns c = gives_as c.linear.ensures.numbers c.give.ensures
