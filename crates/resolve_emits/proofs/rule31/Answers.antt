-- `rule31` meets its contract: no event of the name, or the last one.
use Rattle.nodes.specs.Shown.{tree_of}
use Rattle.resolve_emits.proofs.Laws.{none-31, event-31}
use Rattle.resolve_emits.proofs.Lent.{emit-name, area_of, emit-in, event-in}
use Rattle.resolve_emits.proofs.rule31.Goals as goal

pub returns-then-event-eq0 : goal.returns-then-event-eq0
returns-then-event-eq0 c = λ T. none-31 (tree_of T.body.view) _ _ (c.at-event.ensures.1 T.body.view _ T.lasts) c.if-event-eq0.true

pub parameters-requires : goal.parameters-requires
parameters-requires c = let T = c.requires.0 in (area_of T, event-in T _ _ (c.at-event.ensures.1 T.body.view _ T.lasts) c.if-event-eq0.false)

pub returns : goal.returns
returns c = λ T. let W = T.body.view in event-31 (tree_of W) _ _ (c.at-event.ensures.1 W _ T.lasts) c.if-event-eq0.false (c.arguments.ensures (area_of T)) (c.parameters.ensures (area_of T))

pub at-event-requires : goal.at-event-requires
at-event-requires c = emit-name c.requires.0.body.view c.requires.1

pub arguments-requires : goal.arguments-requires
arguments-requires c = let P = c.requires in (area_of P.0, emit-in P.0 P.1)
