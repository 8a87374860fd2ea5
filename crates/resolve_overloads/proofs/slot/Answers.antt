-- `slot` meets its contract.
use native.Mathlib.Omega.{arith}
use Rattle.resolve_overloads.specs.Keys.{slot}
use borrow.Author.Tests.{lt-ltb, le-ltb}
use Rattle.resolve_overloads.proofs.slot.Goals as goal

pub returns-then-key-lt2048 : goal.returns-then-key-lt2048
unfolding slot
returns-then-key-lt2048 c = (simp (lt-ltb _ _ c.if-key-lt2048.true), omega arith)

pub returns : goal.returns
unfolding slot
returns c = (simp (le-ltb _ _ c.if-key-lt2048.false), omega arith)
