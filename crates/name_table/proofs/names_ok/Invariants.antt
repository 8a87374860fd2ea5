-- `names_ok` meets its contract: every byte is of a class, every name passed is in order, and p and a are the offsets before and at place k.
use Prim.Native.Nat.{◌≤◌}
use Rattle.image.proofs.Text.{Passed}
use Rattle.name_table.proofs.names_ok.Given as goal

abbrev pub invariant-loop-k : goal.invariant-loop-k
invariant-loop-k l = (l.k ≤ l.m) × Passed l.names l.text l.p l.a l.k
