-- `arguments` meets its contract: one child of the Emit after another is counted.
use Rattle.nodes.proofs.Spans.{Span}
use Rattle.nodes.proofs.Iterated.{Over}
use Rattle.resolve_emits.proofs.Counting.{Counting}
use Rattle.resolve_emits.proofs.arguments.Given as goal

abbrev pub invariant-loop-argument : goal.invariant-loop-argument
invariant-loop-argument l =
    let s = l.initial._argument-iterator in
    Over l.area 0 s.rest.end l._argument-iterator × Span l.area 0 l.emit s.rest.end × Counting l.area 0 l.emit s.rest.end l.number l._argument-iterator.rest.at
