-- `note_heads` meets its contract: no parameter stands behind the head.
use Rattle.nodes.proofs.Head.{until-head, head-part}
use Rattle.places.proofs.note_heads.Goals as goal

pub note_until-requires : goal.note_until-requires
note_until-requires c = let P = c.requires in ((P.0.0, head-part _ P.0.1), until-head P.1 _ P.0.1)
