-- `mark_parts` meets its contract: a walk over the head of the entry is one over all of it.
use mathlib.Core.List.{[], ◌∷◌}
use Rattle.rules.specs.Vocabulary.{named}
use Rattle.nodes.specs.Shown.{View, tree_of}
use Rattle.nodes.proofs.Iterated.{Over}
use Rattle.nodes.proofs.Walking.{Walking}
use Rattle.nodes.proofs.mark_parts.Given as goal

abbrev pub invariant-loop-part : goal.invariant-loop-part
invariant-loop-part l = Over l.nodes 0 l.to l.part-iterator × Walking l.on (λ (W : View l.nodes 0). W) (l.sort ∷ []) (λ W. named (tree_of W)) l.entry l.to l.initial.marks l.marks l.part-iterator.rest.at
