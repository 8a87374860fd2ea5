-- `count_before` meets its contract: the names below `low` are before the word, those from `high` on are not.
use Prim.Native.Nat.{◌-◌}
use Rattle.names.proofs.Search.{Narrowed}
use Rattle.names.proofs.count_before.Given as goal

abbrev pub invariant-loop-low : goal.invariant-loop-low
invariant-loop-low l = Narrowed l.image l.name_text l.low l.high

abbrev pub decreases-loop-low : goal.decreases-loop-low
decreases-loop-low l = l.high - l.low
