-- `count` meets its contract: the list with no room.
use native.Mathlib.Omega.{arith}
use Rattle.passes.proofs.count.Goals as goal

pub returns : goal.returns
returns c =
    let L = (c.list_of.ensures.laid tt).count in
    let f = c.list_of.ensures.few in
    (omega arith, omega arith)
