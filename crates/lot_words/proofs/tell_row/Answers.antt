-- `tell_row` meets its contract: the marks by the first clause of each name, then the uses.
use native.Mathlib.Omega.{arith}
use Rattle.nodes.proofs.Naming.{naming}
use Rattle.places.proofs.Noting.{places-none}
use Rattle.linear_occurrences.proofs.Ahead.{clear_later}
use Rattle.linear.proofs.Fresh.{clear-all}
use Rattle.lot_words.proofs.Words.{wrote_as, wrote-join}
use Rattle.lot_words.proofs.Row.{head_of, marking-of, using-of, its-reasons}
use Rattle.lot_words.proofs.tell_row.Goals as goal

pub first_statement-start-requires : goal.first_statement-start-requires
first_statement-start-requires c = let T = c.requires in (T.view, T.here, T.is_entry.after)

pub note_heads-requires : goal.note_heads-requires
note_heads-requires c = let T = c.requires in (naming.burns, head_of T (c.first_statement-start.ensures T.view))

pub tell_marks-marks-requires : goal.tell_marks-marks-requires
tell_marks-marks-requires c = let T = c.requires in (marking-of T c.note_heads.ensures places-none, head_of T (c.first_statement-start.ensures T.view), T.positive)

pub statements-body-requires : goal.statements-body-requires
statements-body-requires c = let T = c.requires in record { view = T.view; here = T.here; first = c.first_statement-start.ensures T.view }

pub tell_uses-requires : goal.tell_uses-requires
tell_uses-requires c =
    let T = c.requires in
    let S = c.first_statement-start.ensures T.view in
    let a = S.after in
    let f = c.tell_marks-marks.ensures.1 in
    (using-of T S (c.statements-body.ensures T.view), clear_later (omega arith) clear-all, T.positive, omega arith)

pub returns : goal.returns
returns c =
    let f = c.tell_marks-marks.ensures.1 in
    let g = c.tell_uses.ensures.1 in (
      λ T.
          let S = c.first_statement-start.ensures T.view in
          let H = c.statements-body.ensures T.view in
          wrote_as (its-reasons T S H) (wrote-join (c.tell_marks-marks.ensures.0 (marking-of T c.note_heads.ensures places-none)) (c.tell_uses.ensures.0 (using-of T S H))),
      omega arith,
    )
