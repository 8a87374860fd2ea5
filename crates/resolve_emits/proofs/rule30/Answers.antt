-- `rule30` meets its contract: an event is declared where a last one is noted.
use Rattle.nodes.specs.Shown.{tree_of}
use Rattle.resolve_emits.proofs.Laws.{event-30}
use Rattle.resolve_emits.proofs.Lent.{emit-name}
use Rattle.resolve_emits.proofs.rule30.Goals as goal

pub returns : goal.returns
returns c = λ T. event-30 (tree_of T.view) _ _ (c.at.ensures.1 T.view _ T.lasts)

pub at-requires : goal.at-requires
at-requires c = emit-name c.requires.0.view c.requires.1
