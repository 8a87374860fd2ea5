-- `isonkaypu_why` meets its contract: the answer's numbers, and its words.
use Rattle.isonkaypu.proofs.isonkaypu_why.Goals as goal

pub returns : goal.returns
returns c = let w = c.why.ensures in (rw w.0.numbers at c.explain.ensures, w.1)
