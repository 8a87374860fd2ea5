-- `take_arguments` meets its contract: a walk from child to child, past the callee.
use Prim.Native.Nat.{◌<◌}
use Rattle.rules.specs.Sweep.{also}
use Rattle.rules.specs.Vocabulary.{is_child}
use Rattle.nodes.specs.Shown.{View, tree_of}
use Rattle.nodes.proofs.Spans.{Span}
use Rattle.nodes.proofs.ChildrenOf.{Reached}
use Rattle.nodes.proofs.Iterated.{Over}
use Rattle.linear_occurrences.specs.Counted.{peels_to}
use Rattle.linear_occurrences.proofs.Cells.{Putting}
use Rattle.linear_occurrences.proofs.take_arguments.Given as goal

abbrev pub invariant-loop-argument : goal.invariant-loop-argument
invariant-loop-argument l =
    let s = l.initial.argument-iterator in
    Over l.nodes l.base s.rest.end l.argument-iterator × Span l.nodes l.base l.call s.rest.end × (l.call < l.argument-iterator.rest.at) × ((W : View l.nodes l.base) → Reached (tree_of W) l.call l.argument-iterator.rest.at)
    × Putting l.call (λ (W : View l.nodes l.base) i a. also (is_child (tree_of W) l.call a) (peels_to (tree_of W) i) a) l.from s.rest.end l.initial.consumers l.consumers l.argument-iterator.rest.at
