-- `rest_one` meets its contract: a number, then the newline.
use native.Mathlib.Omega.{arith}
use Rattle.lines.proofs.Laws.{wrote-join, wrote_as, rest_end}
use Rattle.lines.proofs.rest_one.Goals as goal

pub put-requires : goal.put-requires
put-requires c = let a = c.number-k.ensures.1 in omega arith

pub returns : goal.returns
returns c = (wrote_as (rest_end c.args.n) (wrote-join c.number-k.ensures.0 c.put.ensures.0), let a = c.number-k.ensures.1 in let b = c.put.ensures.1 in omega arith)
