-- `note_parts` meets its contract: no part stands behind the entry's end.
use Rattle.nodes.proofs.Until.{until_end}
use Rattle.places.proofs.note_parts.Goals as goal

pub note_until-requires : goal.note_until-requires
note_until-requires c = let P = c.requires in (P.0, until_end _ P.1 P.2 P.3 (c.end-end.ensures P.1))
