-- `note_until` meets its contract: a walk over the children before which all such parts stand is one over all of them.
use mathlib.Core.List.{[], ◌∷◌}
use Rattle.nodes.specs.Shown.{View}
use Rattle.nodes.proofs.Iterated.{Over}
use Rattle.places.proofs.Noting.{Noting}
use Rattle.places.proofs.note_until.Given as goal

abbrev pub invariant-loop-part : goal.invariant-loop-part
invariant-loop-part l = Over l.nodes 0 l.to l.part-iterator × Noting l.note (λ (W : View l.nodes 0). W) (l.kind ∷ []) l.entry l.to l.initial.places l.places l.part-iterator.rest.at
