-- `emit_if` meets its contract: one record, or none.
use Rattle.records.proofs.Laws.{added-one, added_none}
use Rattle.records.proofs.emit_if.Goals as goal

pub returns-then-hit : goal.returns-then-hit
returns-then-hit c = added-one _ c.if-hit.true c.emit.ensures

pub returns : goal.returns
returns c = added_none _ c.if-hit.false
