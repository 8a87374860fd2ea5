-- `track` meets its contract: a walk from part to part of the entry, with the rows of the parts before.
use Prim.Native.Nat.{◌+◌, ◌*◌, ◌≤◌}
use Rattle.records.proofs.Sweep.{Sweeping}
use Rattle.nodes.specs.Shown.{tree_of}
use Rattle.nodes.proofs.Spans.{Span}
use Rattle.nodes.proofs.Steps.{in_tree}
use Rattle.nodes.proofs.Iterated.{Over}
use Rattle.linear_parts.specs.Parts.{rows_before}
use Rattle.linear_tracked.specs.Rows.{Rows, Unrowed, at60}
use Rattle.linear_tracked.proofs.track.Given as goal

abbrev pub invariant-loop-part : goal.invariant-loop-part
invariant-loop-part l =
    let s = l.initial.part-iterator in
    Over l.nodes 0 s.rest.end l.part-iterator × Span l.nodes 0 (l.entry + 1) s.rest.end × (4 * l.tracked.rows + (l.entry + 1) ≤ l.part-iterator.rest.at)
    × ((T : Unrowed l.nodes l.words l.entry l.initial.places l.initial.first l.initial.last) → Rows T.known.view.image (rows_before l.entry l.part-iterator.rest.at (tree_of T.known.view)) l.tracked.rows l.places l.first l.last)
    × Sweeping (in_tree (λ (T : Unrowed l.nodes l.words l.entry l.initial.places l.initial.first l.initial.last). T.known.view)) (λ (T : Unrowed l.nodes l.words l.entry l.initial.places l.initial.first l.initial.last) i. at60 i (tree_of T.known.view) l.entry) (l.entry + 1) s.rest.end 1 l.initial.out l.count l.out l.tracked.count l.part-iterator.rest.at
