-- `put_all` meets its contract: byte by byte; the text that remains is what is left of the slice.
use lib.ListN.{drop}
use Rattle.signature.proofs.Laws.{Goes}
use Rattle.signature.proofs.put_all.Given as goal

abbrev pub invariant-loop-b : goal.invariant-loop-b
invariant-loop-b l = Goes l.initial.out l.at l.src l.out l.o (drop l.b-index l.src)
