-- `repeats` meets its contract: a walk from item to item, with the names so far marked.
use Prim.Native.Nat.{ℕ, ◌<◌, ◌≤◌}
use mathlib.Core.Path.{◌≡◌}
use mathlib.Core.List.{[]}
use Rattle.nodes.specs.Marks.{Marks}
use Rattle.nodes.specs.Shown.{tree_of}
use Rattle.nodes.proofs.Spans.{Span}
use Rattle.nodes.proofs.Iterated.{Over}
use Rattle.resolve_overloads.specs.Entries.{Seen, at23, earlier}
use Rattle.resolve_overloads.proofs.repeats.Given as goal

abbrev pub invariant-loop-item : goal.invariant-loop-item
invariant-loop-item l =
    let s = l.initial.item-iterator in
    Over l.nodes 0 s.rest.end l.item-iterator × Span l.nodes 0 1 s.rest.end × (1 ≤ l.item-iterator.rest.at) × (l.item-iterator.rest.at ≤ s.rest.end)
    × ((S : Seen l.nodes 1 l.initial.seen) → ((j : ℕ) → 1 ≤ j → j < l.item-iterator.rest.at → at23 j (tree_of S.view) ≡ []) × Marks S.view.image (earlier (tree_of S.view) l.item-iterator.rest.at) l.seen)
