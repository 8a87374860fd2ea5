-- `entries` meets its contract: a walk from item to item, with clean tables between them, up to the first that has a 60.
use Prim.Native.Nat.{◌*◌, ◌<◌, ◌≤◌}
use Rattle.nodes.proofs.Spans.{Span}
use Rattle.nodes.proofs.Iterated.{Over}
use Rattle.linear_occurrences.specs.Counted.{Clear}
use Rattle.linear.specs.Seen.{LinearTables, Clean}
use Rattle.linear_table.proofs.Cutting.{Cutting}
use Rattle.linear_table.proofs.entries.Given as goal

abbrev pub invariant-loop-item : goal.invariant-loop-item
invariant-loop-item l =
    let s = l.initial.item-iterator in
    Over l.nodes 0 s.rest.end l.item-iterator × Span l.nodes 0 1 s.rest.end × (1 ≤ l.item-iterator.rest.at) × (l.item-iterator.rest.at ≤ s.rest.end) × (4 * l.total < l.item-iterator.rest.at)
    × ((T : LinearTables l.nodes l.words l.reader l.initial.tables.burned l.initial.tables.places l.initial.tables.first l.initial.tables.last l.initial.tables.tallies) → Clean T.known.view.image l.tables.burned l.tables.places l.tables.first l.tables.last l.tables.tallies × Clear l.item-iterator.rest.at l.tables.consumers × Cutting T.known.view.image l.table l.total l.item-iterator.rest.at)
