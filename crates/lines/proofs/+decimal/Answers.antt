-- `decimal` meets its contract: no digit, one, or those of n / 10 and then the last.
use Rattle.std.proofs.Common.{arith}
use Rattle.lines.proofs.Laws.{wrote_none, wrote-join, wrote_as, digits-none, digits-one, digits_more}
use Rattle.lines.proofs.+decimal.Goals as goal

pub returns-then-most-eq0 : goal.returns-then-most-eq0
returns-then-most-eq0 t c = (wrote_as (digits-none c.args.most c.args.n c.if-most-eq0.true) (wrote_none _ _), omega arith)

pub returns-then-n-lt10 : goal.returns-then-n-lt10
returns-then-n-lt10 t c = (wrote_as (digits-one c.args.most c.args.n _ c.if-most-eq0.false c.if-n-lt10.true c.digit.ensures) c.put.ensures.0, omega arith)

pub returns : goal.returns
returns t c = (wrote_as (digits_more c.args.most c.args.n _ c.if-most-eq0.false c.if-n-lt10.false c.digit-2.ensures) (wrote-join c.decimal-k.ensures.0 c.put-2.ensures.0), omega arith)
