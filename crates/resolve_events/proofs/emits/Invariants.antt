-- `emits` meets its contract: a walk from item to item.
use mathlib.Core.List.{[], ◌∷◌}
use Rattle.rules.specs.Tree.{emit}
use Rattle.rules.specs.Vocabulary.{below}
use Rattle.nodes.specs.Shown.{tree_of}
use Rattle.nodes.proofs.Iterated.{Over}
use Rattle.nodes.proofs.Steps.{Walk}
use Rattle.resolve_events.specs.Events.{Events}
use Rattle.resolve_emits.specs.Emitted.{emit_rules}
use Rattle.resolve_events.proofs.emits.Given as goal

abbrev pub invariant-loop-node : goal.invariant-loop-node
invariant-loop-node l =
    let s = l.initial.node-iterator in
    Over l.nodes 0 s.rest.end l.node-iterator × Walk (λ (T : Events l.nodes l.last). T.emitting.view) (l.kind ∷ []) (λ T i. let t = tree_of T.emitting.view in below t emit i (emit_rules t)) 1 s.rest.end 4096 l.initial.out l.count l.out l.total l.node-iterator.rest.at
