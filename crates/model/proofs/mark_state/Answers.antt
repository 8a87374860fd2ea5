-- `mark_state` meets its contract: state names are the Names of the fields.
use Rattle.rules.specs.Model.{is_state}
use Rattle.nodes.proofs.Turns.{set-fresh}
use Rattle.nodes.proofs.Naming.{naming}
use Rattle.model.proofs.mark_state.Goals as goal

pub returns : goal.returns
unfolding is_state
returns c = λ W M. set-fresh (c.mark_names.ensures W _ M)

pub mark_names-requires : goal.mark_names-requires
mark_names-requires c = (naming.field, c.requires.0, c.requires.1)
