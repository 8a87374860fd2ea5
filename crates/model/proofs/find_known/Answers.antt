-- `find_known` meets its contract: the declared assets are marked, and then the others.
use Rattle.nodes.proofs.Heads.{root-of, view_of}
use Rattle.model.proofs.find_known.Goals as goal

pub mark_declared-requires : goal.mark_declared-requires
mark_declared-requires c = let S = c.area-nodes.ensures in (view_of S, root-of S)

pub mark_known-requires : goal.mark_known-requires
mark_known-requires c = let S = c.area-nodes.ensures in (record { view = view_of S; qtov_is = c.number_of-qtov.ensures; asset_is = c.number_of-asset.ensures }, root-of S)

pub returns : goal.returns
returns c = λ M. let W = view_of c.area-nodes.ensures in c.mark_known.ensures (record { view = W; qtov_is = c.number_of-qtov.ensures; asset_is = c.number_of-asset.ensures }) (c.mark_declared.ensures W M)
