-- `number` meets its contract: a space, then the digits.
use native.Mathlib.Omega.{arith}
use Rattle.lines.proofs.Laws.{wrote-join}
use Rattle.lines.proofs.number.Goals as goal

pub decimal-requires : goal.decimal-requires
decimal-requires c = let a = c.put-k.ensures.1 in omega arith

pub returns : goal.returns
returns c = (wrote-join c.put-k.ensures.0 c.decimal.ensures.0, let a = c.put-k.ensures.1 in let b = c.decimal.ensures.1 in omega arith)
