-- `note_node` meets its contract: a node of another kind is left out, one of this kind is noted for its Name.
use native.Mathlib.Omega.{arith}
use mathlib.Core.Path.{◌∙◌, sym}
use Rattle.nodes.proofs.Turns.{named-at, named-number}
use Rattle.places.proofs.Noting.{note-other, note-name}
use Rattle.places.proofs.note_node.Goals as goal

pub name-requires : goal.name-requires
name-requires c = let P = c.requires in (named-at P.1 P.2 P.0 (sym (c.kind.ensures P.1) ∙ c.if-kind.true)).here

pub overflow_sub-place : goal.overflow_sub-place
overflow_sub-place c = let P = c.requires in let g = named-number P.1 P.2 P.0 c.kind.ensures c.if-kind.true c.name.ensures in omega arith

pub offset_bounds-places-name : goal.offset_bounds-places-name
offset_bounds-places-name c = let P = c.requires in let g = named-number P.1 P.2 P.0 c.kind.ensures c.if-kind.true c.name.ensures in omega arith

pub bounds-places-name : goal.bounds-places-name
bounds-places-name c = let P = c.requires in let g = named-number P.1 P.2 P.0 c.kind.ensures c.if-kind.true c.name.ensures in omega arith

pub returns-then-kind : goal.returns-then-kind
returns-then-kind c =
    let P = c.requires in
    λ W F N.
    let k = sym (c.kind.ensures W) ∙ c.if-kind.true in
    note-name W c.args.note c.args.p N (named-at W P.2 P.0 k) k (c.name.ensures W) c.taken.ensures

pub returns-else-kind : goal.returns-else-kind
returns-else-kind c = λ W F N. note-other W c.args.note c.args.p N (λ e. c.if-kind.false (c.kind.ensures W ∙ e))
