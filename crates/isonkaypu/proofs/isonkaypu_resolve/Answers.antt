-- `isonkaypu_resolve` meets its contract: the pass's numbers.
use Rattle.isonkaypu.proofs.Laws.{gives_as}
use Rattle.isonkaypu.proofs.isonkaypu_resolve.Goals as goal

pub returns : goal.returns
returns c = gives_as c.resolve.ensures.numbers c.give.ensures
