-- `text` meets its contract: byte by byte.
use lib.ListN.{take}
use Rattle.lines.specs.Line.{Printed}
use Rattle.lines.proofs.text.Given as goal

abbrev pub invariant-loop-b : goal.invariant-loop-b
invariant-loop-b l = Printed l.initial.out l.at (take l.b-index l.t) l.out l.k
