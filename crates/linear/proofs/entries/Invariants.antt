-- `entries` meets its contract: a walk from item to item, with clean tables between them.
use Rattle.records.proofs.Sweep.{Sweeping}
use Rattle.nodes.specs.Shown.{tree_of}
use Rattle.nodes.proofs.Spans.{Span}
use Rattle.nodes.proofs.Steps.{in_tree}
use Rattle.nodes.proofs.Iterated.{Over}
use Rattle.linear_occurrences.specs.Counted.{Clear}
use Rattle.linear.specs.Seen.{LinearTables, Clean, item_linear}
use Rattle.linear.proofs.entries.Given as goal

abbrev pub invariant-loop-item : goal.invariant-loop-item
invariant-loop-item l =
    let s = l.initial.item-iterator in
    Over l.nodes 0 s.rest.end l.item-iterator × Span l.nodes 0 1 s.rest.end × Sweeping (in_tree (λ (T : LinearTables l.nodes l.words l.reader l.initial.tables.burned l.initial.tables.places l.initial.tables.first l.initial.tables.last l.initial.tables.tallies). T.known.view)) (λ T i. item_linear i (tree_of T.known.view)) 1 s.rest.end 3070 l.initial.out 0 l.out l.total l.item-iterator.rest.at
    × ((T : LinearTables l.nodes l.words l.reader l.initial.tables.burned l.initial.tables.places l.initial.tables.first l.initial.tables.last l.initial.tables.tallies) → Clean T.known.view.image l.tables.burned l.tables.places l.tables.first l.tables.last l.tables.tallies × Clear l.item-iterator.rest.at l.tables.consumers)
