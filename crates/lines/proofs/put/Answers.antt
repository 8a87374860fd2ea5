-- `put` meets its contract: one byte.
use mathlib.Core.Path.{refl}
use Rattle.lines.proofs.Laws.{wrote-byte}
use Rattle.lines.proofs.put.Goals as goal

pub returns : goal.returns
returns c = (wrote-byte _ _ c.put.ensures, refl)
