-- `statements` meets its contract: one sweep over the nodes that are lent.
use Rattle.records.proofs.Sweep.{Sweeping}
use Rattle.nodes.specs.Shown.{tree_of}
use Rattle.nodes.specs.Entries.{HeldPart}
use Rattle.nodes.proofs.Spans.{Span}
use Rattle.access.specs.Seen.{WritingBody, at51}
use Rattle.access.proofs.statements.Given as goal

abbrev pub invariant-loop-p : goal.invariant-loop-p
invariant-loop-p l =
    Span l.nodes l.base l.base l.end
    × Sweeping (λ (h : HeldPart l.nodes l.base l.entry (WritingBody l.nodes l.base l.tables l.written)). h.entries) (λ h i. at51 i (tree_of h.seen.writing.view) h.seen.writing.entry) l.base l.end 1 l.initial.out l.count l.out l.total l.p
