-- `note_names` meets its contract: a walk over the items and the fields of the contract.
use mathlib.Core.List.{[], ◌∷◌}
use Rattle.nodes.proofs.Declared.{Over}
use Rattle.nodes.specs.Shown.{View}
use Rattle.places.proofs.Noting.{Noting}
use Rattle.places.proofs.note_names.Given as goal

abbrev pub invariant-loop-declaration : goal.invariant-loop-declaration
invariant-loop-declaration l = let s = l.initial.declaration-iterator in Over l.nodes s.to l.declaration-iterator × Noting l.note (λ (W : View l.nodes 0). W) (l.kind ∷ []) 0 s.to l.initial.places l.places l.declaration-iterator.at
