-- `calls22` meets its contract: one sweep over the nodes that are lent, which all stand in the entry that is told.
use Rattle.records.proofs.Sweep.{Sweeping}
use Rattle.nodes.specs.Shown.{tree_of}
use Rattle.nodes.specs.Entries.{HeldPart}
use Rattle.nodes.proofs.Spans.{Span}
use Rattle.resolve_mints.specs.Minted.{Minting, at22}
use Rattle.resolve_mints.proofs.calls22.Given as goal

abbrev pub invariant-loop-p : goal.invariant-loop-p
invariant-loop-p l = Span l.nodes l.base l.base l.end × Sweeping (λ (h : HeldPart l.nodes l.base l.entry (Minting l.nodes l.base l.mint)). h.entries) (λ h i. at22 i (tree_of h.seen.view)) l.base l.end 1 l.initial.out l.count l.out l.total l.p
