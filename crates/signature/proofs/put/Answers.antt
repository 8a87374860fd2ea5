-- `put` meets its contract: a byte past the end is dropped.
use mathlib.Core.Path.{refl, sym}
use lib.Seq.{set_out}
use Rattle.signature.proofs.put.Goals as goal

pub returns-then-out-at : goal.returns-then-out-at
returns-then-out-at c = record { size = refl; laid = sym (set_out _ _ _ c.if-out-at.true) }
