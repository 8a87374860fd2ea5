-- `group22` meets its contract: nothing where there is no name `mint_asset`, or one Asset item at most.
use mathlib.Core.Path.{◌∙◌, sym}
use Rattle.records.proofs.Laws.{added-nothing, added-as}
use Rattle.nodes.specs.Shown.{tree_of}
use Rattle.resolve_mints.proofs.Assets.{no-mints, few-22, many-22}
use Rattle.resolve_mints.proofs.group22.Goals as goal

pub returns-then-mint-lt1 : goal.returns-then-mint-lt1
returns-then-mint-lt1 c = added-nothing (λ T. no-mints T c.requires.1 c.if-mint-lt1.true)

pub returns-then-not-many_assets : goal.returns-then-not-many_assets
returns-then-not-many_assets c = added-nothing (λ T. few-22 (tree_of T.view) (sym (c.many_assets.ensures T.view) ∙ c.if-not-many_assets.true))

pub returns : goal.returns
returns c = added-as (λ T. many-22 (tree_of T.view) (sym (c.many_assets.ensures T.view) ∙ c.if-not-many_assets.false)) c.mint_calls.ensures
