-- `put_head` meets its contract: an IntLit, a MofN, or the Name of a type.
use mathlib.Core.Path.{◌≡◌, sym, ◌∙◌}
use mathlib.Core.Logic.{inl, inr}
use Rattle.nodes.specs.Shown.{View, tree_of}
use Rattle.signature.proofs.Laws.{room_as, wrote_as}
use Rattle.signature.proofs.Reading.{named-so, name-first, head-number, head-quorum, head-name}
use Rattle.signature.proofs.put_head.Goals as goal

pub put_text-requires : goal.put_text-requires
put_text-requires c = let P = c.requires in let k = sym (c.kind-k.ensures P.texts.view) ∙ c.if-k-eq12.true in record { texts = P.texts; there = P.there; carries = inl k; room = room_as (head-number _ _ k) P.room }

pub returns-then-k-eq12 : goal.returns-then-k-eq12
returns-then-k-eq12 c = λ T. wrote_as (sym (head-number (tree_of T.view) c.args.y (sym (c.kind-k.ensures T.view) ∙ c.if-k-eq12.true))) (c.put_text.ensures T)

pub put_quorum-requires : goal.put_quorum-requires
put_quorum-requires c = let P = c.requires in let k = sym (c.kind-k.ensures P.texts.view) ∙ c.if-k-eq13.true in record { texts = P.texts; there = P.there; is_quorum = k; room = room_as (head-quorum _ _ k) P.room }

pub returns-then-k-eq13 : goal.returns-then-k-eq13
returns-then-k-eq13 c = λ T. wrote_as (sym (head-quorum (tree_of T.view) c.args.y (sym (c.kind-k.ensures T.view) ∙ c.if-k-eq13.true))) (c.put_quorum.ensures T)

pub put_text-requires-2 : goal.put_text-requires-2
put_text-requires-2 c =
    let named : (W : View c.args.nodes.now c.args.base) → (tree_of W).kind c.args.y ≡ 11 = λ W. let P = c.requires in sym (c.kind-k.ensures W) ∙ named-so (c.kind-k.ensures P.texts.view) P.is_type c.if-k-eq12.false c.if-k-eq13.false in
    let P = c.requires in let W = P.texts.view in let k = named W in let n = name-first W P.there k in record { texts = P.texts; there = n.0; carries = inr n.1; room = room_as (head-name _ _ k) P.room }

pub returns : goal.returns
returns c =
    let named : (W : View c.args.nodes.now c.args.base) → (tree_of W).kind c.args.y ≡ 11 = λ W. let P = c.requires in sym (c.kind-k.ensures W) ∙ named-so (c.kind-k.ensures P.texts.view) P.is_type c.if-k-eq12.false c.if-k-eq13.false in
    λ T. wrote_as (sym (head-name (tree_of T.view) c.args.y (named T.view))) (c.put_text-2.ensures T)
