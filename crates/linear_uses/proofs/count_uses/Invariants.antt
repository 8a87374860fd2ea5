-- `count_uses` meets its contract: one sweep that finds the counted occurrences and counts each on its row.
use Prim.Native.Nat.{ℕ, ◌-◌, ◌≤◌}
use mathlib.Core.List.{List, []}
use Rattle.rules.specs.Sweep.{run}
use Rattle.nodes.specs.Shown.{tree_of}
use Rattle.nodes.proofs.Spans.{Span}
use Rattle.linear_occurrences.specs.Counted.{Ahead}
use Rattle.linear_rows.specs.Tallies.{Tallied}
use Rattle.linear_uses.specs.Uses.{Using, use_at}
use Rattle.linear_uses.proofs.count_uses.Given as goal

abbrev pub invariant-loop-p : goal.invariant-loop-p
invariant-loop-p l =
    Span l.nodes l.base l.base l.end × (l.base ≤ l.p) × (l.p ≤ l.end)
    × ((T : Using l.nodes l.base l.reader l.rows) → Ahead (tree_of T.counting.view) l.base l.p l.consumers
    × ((M : ℕ → List ℕ) → Tallied M (λ r. []) l.initial.tallies → Tallied M (λ r. run (use_at (tree_of T.counting.view) T.counting.entry T.row_of r) l.base (l.p - l.base)) l.tallies))
