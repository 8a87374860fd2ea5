-- `tell_marks` meets its contract: a walk from child to child over the head of the entry.
use Prim.Native.Nat.{◌+◌, ◌-◌}
use Rattle.records.proofs.Sweep.{Sweeps}
use Rattle.nodes.specs.Shown.{tree_of}
use Rattle.nodes.proofs.Spans.{Span}
use Rattle.nodes.proofs.Iterated.{Over}
use Rattle.linear_uses.specs.Uses.{burn_at}
use Rattle.reasons.specs.Compute.{clause_words, each}
use Rattle.lot_words.specs.Told.{Wrote, Marking}
use Rattle.lot_words.proofs.tell_marks.Given as goal

abbrev pub invariant-loop-part : goal.invariant-loop-part
invariant-loop-part l = Over l.nodes 0 l.to l.part-iterator × Span l.nodes 0 (l.entry + 1) l.to × Sweeps (λ _. Wrote) (λ (T : Marking l.nodes l.entry l.asset l.clauses l.first) i. each (clause_words (tree_of T.clausal.view) l.entry) (burn_at (tree_of T.clausal.view) l.entry T.row_of (l.row - 1) i)) (l.entry + 1) l.to 2 l.initial.out 0 l.out l.total l.part-iterator.rest.at
