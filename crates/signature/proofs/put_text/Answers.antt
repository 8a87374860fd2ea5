-- `put_text` meets its contract: the text of the number that the node carries.
use mathlib.Core.Path.{refl, sym}
use Rattle.signature.proofs.Laws.{room_as, wrote_as}
use Rattle.signature.proofs.Reading.{lies, text-is}
use Rattle.signature.proofs.put_text.Goals as goal

pub put_name-requires : goal.put_name-requires
put_name-requires c = let C = c.requires in let l = lies C.there C.texts C.carries in rw (c.name-x.ensures C.texts.view) (l.0, l.1, l.2, l.3, room_as (sym (text-is C.there C.texts refl)) C.room)

pub returns : goal.returns
returns c = λ T. wrote_as (text-is c.requires.there T (c.name-x.ensures T.view)) c.put_name.ensures
