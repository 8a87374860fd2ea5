-- `names_step` meets its contract, and ends: the position stays in the file, and each of at most 255 names differs three times at most.
use Prim.Native.Nat.{◌*◌, ◌≤◌}
use lib.ListN.{length}
use Rattle.replay.specs.Differences.{name_step, name_told}
use Rattle.replay.proofs.Laws.{Stepped, Told}
use Rattle.replay.proofs.names_step.Given as goal

abbrev pub invariant-loop-name : goal.invariant-loop-name
invariant-loop-name g l =
    Stepped (name_step l.file l.case.refusal l.image) l.count l.at l._name l.next l.differ
    × Told (name_told l.file l.case.refusal l.image) (name_step l.file l.case.refusal l.image) l.count l.at l._name l.next
    × (l.next ≤ length l.file) × (l.differ ≤ 3 * l._name) × (l._name ≤ l.count)
