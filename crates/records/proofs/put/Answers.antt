-- `put` meets its contract: the word is stored where the buffer has one.
use lib.Seq.{set_out}
use mathlib.Core.Path.{sym}
use Rattle.records.proofs.put.Goals as goal

pub returns-else-i-out : goal.returns-else-i-out
returns-else-i-out g c = sym (set_out _ _ _ c.if-i-out.false)
