-- `store` meets its contract: four stores.
use Rattle.isonkaypu.proofs.Laws.{stored}
use Rattle.isonkaypu.proofs.store.Goals as goal

pub returns : goal.returns
returns c = stored c.args.numbers.now c.args.at c.args.number c.args.place c.args.from c.args.to
