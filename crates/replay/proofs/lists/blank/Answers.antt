-- `blank` has as many words as it says, and these are zeros. A search would count them.
use Prim.Native.Nat.{ℕ}
use mathlib.Core.Path.{refl, sym}
use lib.ListN.{length-replicate}
use Rattle.replay.specs.Differences.{zeros}
use Rattle.replay.proofs.lists.blank.Goals as goal

pub returns : goal.returns
unfolding zeros
returns c = (refl, sym (length-replicate {A = ℕ} 225000 0))
