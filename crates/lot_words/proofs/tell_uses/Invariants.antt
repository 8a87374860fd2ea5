-- `tell_uses` meets its contract: one sweep that finds the counted occurrences and tells those of the row.
use Prim.Native.Nat.{◌-◌}
use Rattle.records.proofs.Sweep.{Sweeps}
use Rattle.nodes.specs.Shown.{tree_of}
use Rattle.nodes.proofs.Spans.{Span}
use Rattle.linear_occurrences.specs.Counted.{Ahead}
use Rattle.linear_uses.specs.Uses.{use_at}
use Rattle.reasons.specs.Compute.{use_words, each}
use Rattle.lot_words.specs.Told.{Wrote, Telling}
use Rattle.lot_words.proofs.tell_uses.Given as goal

abbrev pub invariant-loop-p : goal.invariant-loop-p
invariant-loop-p l =
    Span l.nodes l.base l.base l.end
    × Sweeps (λ _. Wrote) (λ (T : Telling l.nodes l.base l.reader l.last) i. each (use_words (tree_of T.counting.view) T.counting.entry) (use_at (tree_of T.counting.view) T.counting.entry T.row_of (l.row - 1) i)) l.base l.end 2 l.initial.out l.count l.out l.total l.p
    × ((T : Telling l.nodes l.base l.reader l.last) → Ahead (tree_of T.counting.view) l.base l.p l.consumers)
