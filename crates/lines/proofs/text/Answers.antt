-- `text` meets its contract: byte by byte.
use native.Mathlib.Omega.{arith}
use lib.Seq.{take_all, length-take-le}
use Rattle.lines.proofs.Laws.{wrote_none, wrote-join, wrote_as, wrote-long, take_next}
use Rattle.lines.proofs.text.Goals as goal

pub loop-b-init : goal.loop-b-init
loop-b-init c = wrote_none _ _

pub put-k-requires : goal.put-k-requires
put-k-requires c = let w = c.loop-b.invariant.count in let l = length-take-le c.loop-b.b-index c.args.t.now (omega arith) in omega arith

pub loop-b-preserved : goal.loop-b-preserved
loop-b-preserved c = wrote_as (take_next c.args.t.now c.loop-b.b-index c.loop-b-test.true) (wrote-join c.loop-b.invariant c.put-k.ensures.0)

pub shape_of-out : goal.shape_of-out
shape_of-out c = wrote-long c.loop-b.invariant

pub returns : goal.returns
returns c = wrote_as (take_all c.loop-b.b-index c.args.t.now c.loop-b-test.false) c.loop-b.invariant
