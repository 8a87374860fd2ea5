-- `calls40` meets its contract: one sweep over the nodes that are lent.
use Rattle.records.proofs.Sweep.{Sweeping}
use Rattle.nodes.specs.Shown.{tree_of}
use Rattle.nodes.specs.Entries.{HeldPart}
use Rattle.nodes.proofs.Spans.{Span}
use Rattle.resolve_calls.specs.Called.{Calling, at40}
use Rattle.resolve_calls.proofs.calls40.Given as goal

abbrev pub invariant-loop-p : goal.invariant-loop-p
invariant-loop-p l = Span l.nodes l.base l.base l.end × Sweeping (λ (h : HeldPart l.nodes l.base l.entry (Calling l.nodes l.base l.fields l.params)). h.entries) (λ h i. at40 i (tree_of h.seen.view) h.seen.entry) l.base l.end 1 l.initial.out l.count l.out l.total l.p
