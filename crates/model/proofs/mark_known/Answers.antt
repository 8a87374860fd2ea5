-- `mark_known` meets its contract: `QTOV`, and what is inside a `Q_Asset`, beside the declared assets.
use native.Mathlib.Omega.{arith}
use Rattle.names.proofs.Marked.{number_small}
use Rattle.model.proofs.Lacking.{none_named}
use Rattle.model.proofs.Known.{assets-of, known_of, known-less}
use Rattle.model.proofs.mark_known.Goals as goal

pub mark_number-requires : goal.mark_number-requires
mark_number-requires c = let K = c.requires.0 in number_small K.view.shown.admitted K.qtov_is

pub mark_inners-requires : goal.mark_inners-requires
mark_inners-requires c = (assets-of c.requires.0, c.requires.1)

pub returns-then-asset-gt0 : goal.returns-then-asset-gt0
returns-then-asset-gt0 c = λ K M. known_of (c.mark_inners.ensures (assets-of K) _ (c.mark_number.ensures _ _ _ K.view.shown.admitted K.qtov_is M))

pub returns-else-asset-gt0 : goal.returns-else-asset-gt0
returns-else-asset-gt0 c = λ K M. known-less (none_named K.view c.requires.1 K.asset_is (let l = c.if-asset-gt0.false in omega arith)) (c.mark_number.ensures _ _ _ K.view.shown.admitted K.qtov_is M)
