-- `statements` meets its contract: a walk from statement to statement, since an Emit is one; they all stand in the entry that is told.
use Prim.Native.Nat.{◌+◌, ◌/◌}
use lib.ListN.{length}
use Rattle.rules.specs.Tree.{emit}
use Rattle.nodes.specs.Shown.{tree_of}
use Rattle.nodes.specs.Entries.{HeldPart}
use Rattle.nodes.proofs.Iterated.{Over}
use Rattle.nodes.proofs.Steps.{Stepping}
use Rattle.resolve_emits.specs.Emitted.{Emitted, emit_rules}
use Rattle.resolve_events.proofs.statements.Given as goal

abbrev pub invariant-loop-s : goal.invariant-loop-s
invariant-loop-s l = Over l.nodes l.base (l.base + length l.nodes / 16) l.s-iterator × Stepping (λ (h : HeldPart l.nodes l.base l.entry (Emitted l.nodes l.base l.area l.last)). h.seen.body) emit (λ h. emit_rules (tree_of h.seen.body.view)) (λ h. h.entries) 2 l.initial.out l.count l.out l.total l.s-iterator.rest.at
