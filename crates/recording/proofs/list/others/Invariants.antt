-- `others` meets its contract: it counts each record that differs, from the first on.
use mathlib.Core.Path.{◌≡◌}
use Prim.Native.Nat.{◌≤◌}
use Rattle.recording.specs.Told.{other_records}
use Rattle.recording.proofs.list.others.Given as goal

abbrev pub invariant-loop-i : goal.invariant-loop-i
invariant-loop-i g l = (l.differ ≡ other_records l.file l.at l.head l.words l.i) × (l.differ ≤ l.i) × (l.i ≤ l.count)
