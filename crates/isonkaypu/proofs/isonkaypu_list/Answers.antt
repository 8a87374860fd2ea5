-- `isonkaypu_list` meets its contract: the list's numbers, and its words.
use Rattle.isonkaypu.proofs.Laws.{tells_as}
use Rattle.isonkaypu.proofs.isonkaypu_list.Goals as goal

pub returns : goal.returns
returns c = let t = tells_as c.list.ensures.0.numbers c.tell.ensures in (t, c.list.ensures.1)
