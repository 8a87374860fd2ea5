-- `isonkaypu_is_declared_asset` meets its contract: the reply's numbers.
use Rattle.isonkaypu.proofs.Laws.{says-as}
use Rattle.isonkaypu.proofs.isonkaypu_is_declared_asset.Goals as goal

pub returns : goal.returns
returns c = says-as c.is_declared_asset.ensures.numbers c.say.ensures
