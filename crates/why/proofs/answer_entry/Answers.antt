-- `answer_entry` meets its contract: the entry's rows are tracked, and the one at the place is sought among them.
use native.Mathlib.Omega.{arith}
use Rattle.nodes.proofs.Names.{marks-none}
use Rattle.why.proofs.Found.{unrowed-of, no_row, its-row, rowed-of, answer-no-lot}
use Rattle.why.proofs.answer_entry.Goals as goal

pub track-tracked-requires : goal.track-tracked-requires
track-tracked-requires c = (unrowed-of c.requires.0 c.requires.1 c.asset_words-asset_words.ensures, omega arith)

pub row_at-requires : goal.row_at-requires
row_at-requires c = c.track-tracked.ensures.rows_bound.0

pub returns-in_default : goal.returns-in_default
returns-in_default c =
    let rows = c.track-tracked.ensures.rows_bound.1 in
    let words = c.asset_words-asset_words.ensures in
    let row = c.row_at.ensures in
    let is = c.in_default.is in
    let g = c.args in
    λ T A. answer-no-lot T.view.image g.out.now g.place T.view.shown.admitted (no_row T.view A (rows (unrowed-of T A words)).1 (rw is at row))

pub mark_readers-requires : goal.mark_readers-requires
mark_readers-requires c = let T = c.requires.0 in (_, T.view.shown.admitted, T.words_are)

pub answer_row-requires : goal.answer_row-requires
answer_row-requires c =
    let T = c.requires.0 in
    let A = c.requires.1 in
    let s = T.view.image in
    let a = T.view.shown.admitted in
    let words = c.asset_words-asset_words.ensures in
    let R = (c.track-tracked.ensures.rows_bound.1 (unrowed-of T A words)).1 in
    rowed-of T.view A R (rw c.in-Some.is at c.row_at.ensures) (words s T.words_are).0 (c.mark_readers.ensures s a T.words_are (marks-none s a))

pub returns : goal.returns
returns c =
    let rows = c.track-tracked.ensures.rows_bound.1 in
    let row = rw c.in-Some.is at c.row_at.ensures in
    let words = c.asset_words-asset_words.ensures in
    let marks = c.mark_readers.ensures in
    let w = c.answer_row.ensures in
    let g = c.args in
    λ T A.
    let s = T.view.image in
    let a = T.view.shown.admitted in
    let R = (rows (unrowed-of T A words)).1 in
    w (rowed-of T.view A R row (words s T.words_are).0 (marks s a T.words_are (marks-none s a))) g.place (its-row T.view A R row)
