-- `words` meets its contract: one sweep over the range.
use Rattle.records.specs.Records.{Held}
use Rattle.records.proofs.Sweep.{Sweeping}
use Rattle.nodes.proofs.Spans.{Span}
use Rattle.nodes.specs.Shown.{tree_of}
use Rattle.resolve_clauses.specs.Said.{OneTable, at_node}
use Rattle.resolve_clauses.proofs.words.Given as goal

abbrev pub invariant-loop-p : goal.invariant-loop-p
invariant-loop-p l = Span l.nodes l.base l.from l.end × Sweeping (λ (h : Held (OneTable l.nodes l.base l.marks) l.entry l.from l.end). h.entries) (λ h i. at_node l.rule h.seen.says (tree_of h.seen.view) i) l.from l.end 1 l.initial.out l.count l.out l.total l.p
