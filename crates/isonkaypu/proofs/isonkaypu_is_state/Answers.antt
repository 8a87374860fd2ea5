-- `isonkaypu_is_state` meets its contract: the reply's numbers.
use Rattle.isonkaypu.proofs.Laws.{says-as}
use Rattle.isonkaypu.proofs.isonkaypu_is_state.Goals as goal

pub returns : goal.returns
returns c = says-as c.is_state.ensures.numbers c.say.ensures
