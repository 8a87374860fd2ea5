-- `put_quorum` meets its contract: three texts, one after another.
use mathlib.Core.Logic.{inl}
use Rattle.signature.proofs.Laws.{room-front, room-rest, wrote_then}
use Rattle.signature.proofs.Reading.{quorum-first, quorum-second}
use Rattle.signature.proofs.put_quorum.Goals as goal

pub put_text-after_m-requires : goal.put_text-after_m-requires
put_text-after_m-requires c = let C = c.requires in let f = quorum-first C.texts.view C.there C.is_quorum in record { texts = C.texts; there = f.0; carries = inl f.1; room = room-front _ C.room }

pub put_all-after_of-requires : goal.put_all-after_of-requires
put_all-after_of-requires c = let C = c.requires in room-front _ (room-rest _ C.room (c.put_text-after_m.ensures C.texts))

pub put_text-requires : goal.put_text-requires
put_text-requires c =
    let C = c.requires in
    let f = quorum-second C.texts.view C.there C.is_quorum in
    record { texts = C.texts; there = f.0; carries = inl f.1; room = room-rest _ (room-rest _ C.room (c.put_text-after_m.ensures C.texts)) c.put_all-after_of.ensures }

pub returns : goal.returns
returns c = λ T. wrote_then (c.put_text-after_m.ensures T) (wrote_then c.put_all-after_of.ensures (c.put_text.ensures T))
