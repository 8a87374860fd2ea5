-- `isonkaypu_verdicts` meets its contract: three rows of four numbers.
use Rattle.isonkaypu.proofs.Laws.{rows_as}
use Rattle.isonkaypu.proofs.isonkaypu_verdicts.Goals as goal

pub returns-in-Err : goal.returns-in-Err
returns-in-Err c = let v = rw c.in-Err.is at c.verdicts.ensures in rows_as c.args.numbers.now _ v.0.numbers v.1.numbers v.2.numbers c.note.ensures c.note-in-Err.ensures c.note-in-Err-2.ensures

pub returns-in-Ok : goal.returns-in-Ok
returns-in-Ok c = let v = rw c.in-Ok.is at c.verdicts.ensures in rows_as c.args.numbers.now _ v.0.numbers v.1.numbers v.2.numbers c.note-in-Ok.ensures c.note-in-Ok-2.ensures c.note-in-Ok-3.ensures
