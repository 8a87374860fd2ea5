-- `record_lines` meets its contract: record by record.
use Prim.Native.Nat.{◌+◌, ◌*◌, ◌-◌, ◌≤◌}
use Rattle.rules.specs.Sweep.{run}
use Rattle.lines.specs.Line.{Printed}
use Rattle.render.specs.Report.{line_at}
use Rattle.render.proofs.record_lines.Given as goal

abbrev pub invariant-loop-i : goal.invariant-loop-i
invariant-loop-i l = (l.i ≤ l.count) × (l.k ≤ l.at + 46 * l.i) × Printed l.initial.out l.at (run (line_at l.image l.words) 0 l.i) l.out l.k
