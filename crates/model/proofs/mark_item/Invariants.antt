-- `mark_item` meets its contract: a walk over the types of the item.
use Prim.Native.Nat.{◌-◌}
use mathlib.Core.Bool.{true}
use Rattle.nodes.proofs.Spans.{Span}
use Rattle.nodes.proofs.Marking.{Marking}
use Rattle.model.specs.Assets.{Assets, inside_at}
use Rattle.model.proofs.mark_item.Given as goal

abbrev pub invariant-loop-p : goal.invariant-loop-p
invariant-loop-p l = Span l.nodes 0 l.item l.to × Marking true (λ (A : Assets l.nodes l.asset). A.view.image) (λ A w y. inside_at y A w) l.item l.to l.initial.known l.known l.p

abbrev pub decreases-loop-p : goal.decreases-loop-p
decreases-loop-p l = l.to - l.p
