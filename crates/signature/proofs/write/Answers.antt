-- `write` meets its contract: name, bracket, parameters, bracket, one after another.
use Rattle.std.proofs.Common.{sym, ◌∙◌, inr}
use Rattle.rules.specs.Resolve.{signature}
use Rattle.nodes.specs.Shown.{tree_of}
use Rattle.signature.specs.Wrote.{Wrote}
use Rattle.signature.specs.Texts.{Texts}
use Rattle.signature.proofs.Bounds.{room-any, wrote-few}
use Rattle.signature.proofs.Laws.{room_as, room-front, room-rest, wrote_as, wrote_then}
use Rattle.signature.proofs.Reading.{kinds-agree, entry_first, signature-so}
use Rattle.signature.proofs.write.Goals as goal

pub put_text-after_name-requires : goal.put_text-after_name-requires
put_text-after_name-requires c =
    let P = c.requires in
    let f = entry_first P.texts.view P.there P.is_entry in
    record { texts = P.texts; there = f.0; carries = inr f.1; room = room-front _ (room_as (signature-so P.texts.view P.there P.is_entry) (room-any P)) }

pub put-after_open-requires : goal.put-after_open-requires
put-after_open-requires c =
    let P = c.requires in
    let s = room_as (signature-so P.texts.view P.there P.is_entry) (room-any P) in
    room-front _ (room-rest _ s (c.put_text-after_name.ensures P.texts))

pub write_params-after_params-requires : goal.write_params-after_params-requires
write_params-after_params-requires c =
    let P = c.requires in
    let s = room_as (signature-so P.texts.view P.there P.is_entry) (room-any P) in
    record { texts = P.texts; there = P.there; is_entry = P.is_entry; room = room-front _ (room-rest _ (room-rest _ s (c.put_text-after_name.ensures P.texts)) c.put-after_open.ensures) }

pub put-requires : goal.put-requires
put-requires c =
    let P = c.requires in
    let s = room_as (signature-so P.texts.view P.there P.is_entry) (room-any P) in
    room-rest _ (room-rest _ (room-rest _ s (c.put_text-after_name.ensures P.texts)) c.put-after_open.ensures) (c.write_params-after_params.ensures P.texts)

-- the four texts one after another
pub returns : goal.returns
returns c =
    let P = c.requires in
    let written : (T : Texts c.args.nodes.now c.args.base c.args.names.now c.args.text.now) → Wrote c.args.out.now c.args.at (signature (tree_of T.view) c.args.e) c.put.new.out c.put.result = λ T.
    wrote_as (sym (signature-so T.view P.there (kinds-agree T.view P.texts.view P.there ∙ P.is_entry)))
    (wrote_then (c.put_text-after_name.ensures T) (wrote_then c.put-after_open.ensures (wrote_then (c.write_params-after_params.ensures T) c.put.ensures))) in
    (written, wrote-few P (written P.texts))
