-- `mark_declared` meets its contract: declared assets are the Names of the Asset items.
use Rattle.rules.specs.Model.{is_declared_asset}
use Rattle.nodes.proofs.Turns.{set-fresh}
use Rattle.nodes.proofs.Naming.{naming}
use Rattle.model.proofs.mark_declared.Goals as goal

pub returns : goal.returns
unfolding is_declared_asset
returns c = λ W M. set-fresh (c.mark_names.ensures W _ M)

pub mark_names-requires : goal.mark_names-requires
mark_names-requires c = (naming.asset, c.requires.0, c.requires.1)
