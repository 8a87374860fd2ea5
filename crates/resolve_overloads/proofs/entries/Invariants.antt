-- `entries` meets its contract: a walk from item to item, with the entries so far in the tables.
use Rattle.records.proofs.Sweep.{Sweeping}
use Rattle.nodes.specs.Shown.{tree_of}
use Rattle.nodes.proofs.Spans.{Span}
use Rattle.nodes.proofs.Steps.{in_tree}
use Rattle.nodes.proofs.Iterated.{Over}
use Rattle.resolve_overloads.specs.Entries.{at23}
use Rattle.resolve_overloads.specs.Keys.{Chained, Chains}
use Rattle.resolve_overloads.proofs.entries.Given as goal

abbrev pub invariant-loop-item : goal.invariant-loop-item
invariant-loop-item l =
    let s = l.initial.item-iterator in
    Over l.nodes 0 s.rest.end l.item-iterator × Span l.nodes 0 1 s.rest.end × Sweeping (in_tree (λ (C : Chained l.nodes 1 l.initial.kept). C.view)) (λ C i. at23 i (tree_of C.view)) 1 s.rest.end 1 l.initial.out l.count l.out l.total l.item-iterator.rest.at
    × ((C : Chained l.nodes 1 l.initial.kept) → Chains C.view.image l.item-iterator.rest.at l.kept.heads l.kept.links l.kept.keys)
