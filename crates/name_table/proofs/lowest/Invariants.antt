-- `lowest` meets its contract: the lowest class so far is one exactly when every byte passed is of a class.
use Prim.Native.Nat.{◌≤◌}
use mathlib.Core.Path.{◌≡◌}
use lib.ListN.{length}
use lib.Dec.{leb}
use Rattle.image.specs.Pick.{every}
use Rattle.image.specs.Text.{word_at}
use Rattle.name_table.proofs.lowest.Given as goal

abbrev pub invariant-loop-b : goal.invariant-loop-b
invariant-loop-b l = (l.b-index ≤ length l.t) × (leb 1 l.low ≡ every (word_at l.t) l.b-index)
