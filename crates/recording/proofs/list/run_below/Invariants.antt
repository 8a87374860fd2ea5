-- `run_below` meets its contract: it goes on as long as codes are below.
use Prim.Native.Nat.{◌≤◌}
use Rattle.recording.proofs.Laws.{Ran}
use Rattle.recording.proofs.list.run_below.Given as goal

abbrev pub invariant-loop-i : goal.invariant-loop-i
invariant-loop-i l = Ran l.file l.code l.at l.count l.i × (l.i ≤ l.count)
