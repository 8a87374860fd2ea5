-- `calls34` meets its contract: one sweep over the nodes that are lent.
use Rattle.records.proofs.Sweep.{Sweeping}
use Rattle.nodes.specs.Shown.{tree_of}
use Rattle.nodes.specs.Entries.{HeldPart}
use Rattle.nodes.proofs.Spans.{Span}
use Rattle.resolve_calls.specs.Called.{CallWords, at34}
use Rattle.resolve_calls.proofs.calls34.Given as goal

abbrev pub invariant-loop-p : goal.invariant-loop-p
invariant-loop-p l = Span l.nodes l.base l.base l.end × Sweeping (λ (h : HeldPart l.nodes l.base l.entry (CallWords l.nodes l.base l.builtin l.method)). h.entries) (λ h i. at34 i (tree_of h.seen.view)) l.base l.end 1 l.initial.out l.count l.out l.total l.p
