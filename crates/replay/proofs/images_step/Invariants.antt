-- `images_step` meets its contract, and ends: the position stays in the file, and an image differs 500,000 times at most.
use Prim.Native.Nat.{◌*◌, ◌≤◌}
use lib.ListN.{length}
use Rattle.replay.specs.Differences.{image_step, image_told}
use Rattle.replay.proofs.Laws.{Stepped, Told}
use Rattle.replay.proofs.images_step.Given as goal

abbrev pub invariant-loop-number : goal.invariant-loop-number
invariant-loop-number g l =
    Stepped (image_step l.file) l.count 4 l.number l.next l.differ × Told (image_told l.file) (image_step l.file) l.count 4 l.number l.next
    × (l.next ≤ length l.file) × (l.differ ≤ 500000 * l.number) × (l.number ≤ l.count)
