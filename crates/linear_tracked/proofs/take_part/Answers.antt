-- `take_part` meets its contract: one more row in the table and in the tables by name, one more 60, or neither.
use native.Mathlib.Omega.{arith}
use mathlib.Core.Path.{ap, ◌∙◌}
use Rattle.std.specs.Prelude.{Some}
use Rattle.records.proofs.Laws.{added-nothing, asked-at, added-long}
use Rattle.nodes.specs.Shown.{tree_of}
use Rattle.nodes.proofs.Parts.{past}
use Rattle.linear_parts.specs.Parts.{says_row, says60}
use Rattle.linear_parts.proofs.Row.{row-long, row_named}
use Rattle.linear_tracked.proofs.Filled.{rows-still, rows-push}
use Rattle.linear_parts.proofs.Parts.{part_in}
use Rattle.linear_tracked.proofs.Walk.{declares, room, at60-none, at60-one}
use Rattle.linear_tracked.proofs.take_part.Goals as goal

pub place_of-requires : goal.place_of-requires
place_of-requires c = let T = c.requires.0 in (T.known.view, part_in T)

pub note_row-requires : goal.note_row-requires
note_row-requires c =
    let T = c.requires.0 in (row_named T.known.view (part_in T) (declares c.part_of.ensures c.in-Row.is T), let h = room c.part_of.ensures c.in-Row.is T c.requires.2 in omega arith)

pub note_row-requires-in-Row : goal.note_row-requires-in-Row
note_row-requires-in-Row c =
    let T = c.requires.0 in (row_named T.known.view (part_in T) (declares c.part_of.ensures c.in-Row.is T), let h = room c.part_of.ensures c.in-Row.is T c.requires.2 in omega arith)

pub returns-in-Row : goal.returns-in-Row
returns-in-Row c =
    let is_one = declares c.part_of.ensures c.in-Row.is in
    let small = room c.part_of.ensures c.in-Row.is c.requires.0 c.requires.2 in
    let l = c.requires.2 in record { takes_row = λ T. (let h = row-long T.known.view (part_in T) (is_one T) in omega arith, λ xs R. let W = T.known.view in rows-push c.args.p small (is_one T) (c.place_of.ensures.0 W) R (c.note_row.ensures W _ R.first_rows) (c.note_row-in-Row.ensures W _ R.last_rows)); adds = added-nothing (λ h. at60-none (tree_of h.seen.known.view) h.seen.entry _ ((c.part_of.ensures h.seen).1 ∙ ap says60 c.in-Row.is)) }

pub returns-in-Alias : goal.returns-in-Alias
returns-in-Alias c = record { takes_row = λ T. (let h = (past T.known.view (part_in T)).0 in omega arith, λ xs R. rows-still c.args.p ((c.part_of.ensures T).0 ∙ ap says_row c.in-Alias.is) R); adds = asked-at (λ h. h.seen) 60 _ (λ h. h.held _ (omega arith) (omega arith)) (Some 0) (λ T. at60-one (tree_of T.known.view) T.entry _ ((c.part_of.ensures T).1 ∙ ap says60 c.in-Alias.is)) c.emit-total.ensures }

pub returns-in-Other : goal.returns-in-Other
returns-in-Other c = record { takes_row = λ T. (let h = (past T.known.view (part_in T)).0 in omega arith, λ xs R. rows-still c.args.p ((c.part_of.ensures T).0 ∙ ap says_row c.in-Other.is) R); adds = added-nothing (λ h. at60-none (tree_of h.seen.known.view) h.seen.entry _ ((c.part_of.ensures h.seen).1 ∙ ap says60 c.in-Other.is)) }

pub offset_bounds-places-n : goal.offset_bounds-places-n
offset_bounds-places-n c = let h = room c.part_of.ensures c.in-Row.is c.requires.0 c.requires.2 in omega arith

pub bounds-places-n : goal.bounds-places-n
bounds-places-n c = let h = room c.part_of.ensures c.in-Row.is c.requires.0 c.requires.2 in omega arith

pub overflow_add-n : goal.overflow_add-n
overflow_add-n c = let h = room c.part_of.ensures c.in-Row.is c.requires.0 c.requires.2 in omega arith

pub overflow_add-p : goal.overflow_add-p
overflow_add-p c = let h = (part_in c.requires.0).2 in omega arith

pub overflow_add-n-in-Row : goal.overflow_add-n-in-Row
overflow_add-n-in-Row c = let h = room c.part_of.ensures c.in-Row.is c.requires.0 c.requires.2 in omega arith

pub overflow_add-p-in-Row : goal.overflow_add-p-in-Row
overflow_add-p-in-Row c = let h = (part_in c.requires.0).2 in omega arith

pub overflow_add-result : goal.overflow_add-result
overflow_add-result c = let h = room c.part_of.ensures c.in-Row.is c.requires.0 c.requires.2 in omega arith

pub overflow_cast-p : goal.overflow_cast-p
overflow_cast-p c = let h = (part_in c.requires.0).2 in omega arith

pub shape_of-out : goal.shape_of-out
shape_of-out c = added-long c.emit-total.ensures tt
