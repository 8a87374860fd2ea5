-- `entry` meets its contract: its rows are tracked; where it has no 60, marks and uses are counted, the rows stored, and the tables cleaned.
use native.Mathlib.Omega.{arith}
use mathlib.Core.Path.{ap, ◌∙◌}
use mathlib.Core.List.{List, ◌++◌}
use Rattle.std.proofs.lemmas.Result.{err_from_is_err_and}
use Rattle.nodes.proofs.Parts.{past, few}
use Rattle.places.specs.declared.Note.TheVariants.{First, Last}
use Rattle.linear.proofs.Judged.{blanked}
use Rattle.linear_occurrences.proofs.Ahead.{clear_later}
use Rattle.linear.proofs.Between.{kind-of, unrowed-of, placed_of, filled_of}
use Rattle.linear_table.specs.declared.Row.{Row}
use Rattle.linear_table.proofs.Held.{holds_as}
use Rattle.linear_table.proofs.Rows.{rows_are, rows_long}
use Rattle.linear_table.proofs.Item.{item-other, item-stops, item-stood}
use Rattle.linear_table.proofs.entry.Goals as goal

pub returns-then-kind-ne-ENTRY : goal.returns-then-kind-ne-ENTRY
returns-then-kind-ne-ENTRY c = λ T. let h = (past T.known.view c.requires.1).0 in let l = c.requires.4 in item-other (λ e. c.if-kind-ne-ENTRY.true (c.kind.ensures T.known.view ∙ e)) T.clean (clear_later (omega arith) c.requires.3) (omega arith)

pub track_entry-requires : goal.track_entry-requires
track_entry-requires c = let T = c.requires.0 in unrowed-of T (kind-of c.args.item c.kind.ensures c.if-kind-ne-ENTRY.false T.known.view) c.requires.1 c.requires.2

pub returns-in_err-n : goal.returns-in_err-n
returns-in_err-n c = λ T. let k = kind-of c.args.item c.kind.ensures c.if-kind-ne-ENTRY.false T.known.view in let p = err_from_is_err_and c.from_residual.result c.from_residual.ensures.1 in rw (p.1, p.2) (item-stops k (rw c.in_err-n.was at (c.track_entry.ensures (unrowed-of T k c.requires.1 c.requires.2))))

pub tally-requires : goal.tally-requires
tally-requires c =
    let b = c.requires in
    let k = kind-of c.args.item c.kind.ensures c.if-kind-ne-ENTRY.false b.0.known.view in
    let U = unrowed-of b.0 k b.1 b.2 in
    (filled_of b.0 k ((rw c.in_ok-n.was at (c.track_entry.ensures U)).1 U).1, b.1, b.2, b.3)

pub stand-requires : goal.stand-requires
stand-requires c =
    let b = c.requires in
    let W = b.0.known.view in
    let k = kind-of c.args.item c.kind.ensures c.if-kind-ne-ENTRY.false W in
    let U = unrowed-of b.0 k b.1 b.2 in
    let R = (rw c.in_ok-n.was at (c.track_entry.ensures U)).1 U in
    let l = R.0 in
    let h = (past W b.1).1 in
    let f = (few W).0 in
    let e = b.4 in
    (placed_of b.0 b.1 R.1, omega arith)

pub untrack-requires : goal.untrack-requires
untrack-requires c =
    let b = c.requires in
    let k = kind-of c.args.item c.kind.ensures c.if-kind-ne-ENTRY.false b.0.known.view in
    let U = unrowed-of b.0 k b.1 b.2 in
    placed_of b.0 b.1 ((rw c.in_ok-n.was at (c.track_entry.ensures U)).1 U).1

pub untrack-requires-2 : goal.untrack-requires-2
untrack-requires-2 c =
    let b = c.requires in
    let k = kind-of c.args.item c.kind.ensures c.if-kind-ne-ENTRY.false b.0.known.view in
    let U = unrowed-of b.0 k b.1 b.2 in
    placed_of b.0 b.1 ((rw c.in_ok-n.was at (c.track_entry.ensures U)).1 U).1

pub overflow_add-result : goal.overflow_add-result
overflow_add-result c =
    let b = c.requires in
    let W = b.0.known.view in
    let k = kind-of c.args.item c.kind.ensures c.if-kind-ne-ENTRY.false W in
    let U = unrowed-of b.0 k b.1 b.2 in
    let l = ((rw c.in_ok-n.was at (c.track_entry.ensures U)).1 U).0 in
    let h = (past W b.1).1 in
    let f = (few W).0 in
    let e = b.4 in
    omega arith

pub returns : goal.returns
returns c =
    λ T.
    let b = c.requires in
    let k = kind-of c.args.item c.kind.ensures c.if-kind-ne-ENTRY.false T.known.view in
    let U = unrowed-of T k b.1 b.2 in
    let t = rw c.in_ok-n.was at (c.track_entry.ensures U) in
    let l = (t.1 U).0 in
    let R = (t.1 U).1 in
    let G = c.tally.ensures (filled_of T k R) in
    let Q = placed_of T b.1 R in
    let j = c.stand.ensures in
    let m = b.4 in
    item-stood k t.0 (λ rows e H. holds_as (ap (λ (l : List Row). rows ++ l) (rows_are Q G.2)) (j.holds Q rows e H)) (rows_long Q G.2) (omega arith)
    (record {
      size = R.size;
      burned_none = G.0;
      first_none = c.untrack.ensures Q First R.first_rows;
      last_none = c.untrack-2.ensures Q Last R.last_rows;
      blank = blanked c.args.item R G.2 j.blanks.0 j.blanks.1;
    })
    G.1
