-- `entry` meets its contract: its rows are tracked and the 60s laid, marks and uses counted, each row judged, and the tables cleaned.
use borrow.Author.Rules.{rules}
use native.Mathlib.Omega.{arith}
use mathlib.Core.Path.{◌∙◌}
use Rattle.records.proofs.Laws.{added-nothing}
use Rattle.records.proofs.Sweep.{keep-none, has-not}
use Rattle.nodes.proofs.Parts.{past}
use Rattle.places.specs.declared.Note.TheVariants.{First, Last}
use Rattle.linear.proofs.Judged.{blanked}
use Rattle.linear_occurrences.proofs.Ahead.{clear_later}
use Rattle.linear.proofs.Between.{kind-of, unrowed-of, placed_of, filled_of, item-laid}
use Rattle.linear.proofs.entry.Goals as goal

pub returns-then-kind-ne-ENTRY : goal.returns-then-kind-ne-ENTRY
returns-then-kind-ne-ENTRY c = record { adds = added-nothing (λ T. keep-none _ _ (has-not _ 9 (λ e. c.if-kind-ne-ENTRY.true (c.kind.ensures T.known.view ∙ e)))); cleans_rows = λ T. let h = (past T.known.view c.requires.1).0 in (T.clean, clear_later (omega arith) c.requires.3) }

pub track-tracked-requires : goal.track-tracked-requires
track-tracked-requires c =
    let k = kind-of c.args.item c.kind.ensures c.if-kind-ne-ENTRY.false in
    let T = c.requires.0 in (unrowed-of T (k T.known.view) c.requires.1 c.requires.2, search rules)

pub tally-requires : goal.tally-requires
tally-requires c =
    let k = kind-of c.args.item c.kind.ensures c.if-kind-ne-ENTRY.false in
    let b = c.requires in (filled_of b.0 (k b.0.known.view) (c.track-tracked.ensures.rows_bound.1 (unrowed-of b.0 (k b.0.known.view) b.1 b.2)).1, b.1, b.2, b.3)

pub judge-total-requires : goal.judge-total-requires
judge-total-requires c =
    let p = c.requires in let l = p.4 in let i = p.1.2 in let t = c.track-tracked.ensures in let f = t.adds.few in let n = t.rows_bound.0 in
    (omega arith, n, omega arith)

pub untrack-requires : goal.untrack-requires
untrack-requires c =
    let k = kind-of c.args.item c.kind.ensures c.if-kind-ne-ENTRY.false in
    let b = c.requires in placed_of b.0 b.1 (c.track-tracked.ensures.rows_bound.1 (unrowed-of b.0 (k b.0.known.view) b.1 b.2)).1

pub untrack-requires-2 : goal.untrack-requires-2
untrack-requires-2 c =
    let k = kind-of c.args.item c.kind.ensures c.if-kind-ne-ENTRY.false in
    let b = c.requires in placed_of b.0 b.1 (c.track-tracked.ensures.rows_bound.1 (unrowed-of b.0 (k b.0.known.view) b.1 b.2)).1

pub returns : goal.returns
returns c =
    let k = kind-of c.args.item c.kind.ensures c.if-kind-ne-ENTRY.false in
    let b = c.requires in let e = c.args.item in
    let r = c.track-tracked.ensures.rows_bound.1 in let a = c.track-tracked.ensures.adds in let y = c.tally.ensures in let j = c.judge-total.ensures in record {
      adds = record {
        laid = λ T. let R = (r (unrowed-of T (k T.known.view) b.1 b.2)).1 in let h = k T.known.view in item-laid T h R b.1 b.2 (y (filled_of T h R)).2 (a.laid (unrowed-of T (k T.known.view) b.1 b.2)) (j.adds.laid tt);
        few = let f = a.few in let g = j.adds.few in omega arith;
      };
      cleans_rows = λ T.
          let R = (r (unrowed-of T (k T.known.view) b.1 b.2)).1 in
          let G = y (filled_of T (k T.known.view) R) in (
            record {
              size = R.size;
              burned_none = G.0;
              first_none = c.untrack.ensures (placed_of T b.1 R) First R.first_rows;
              last_none = c.untrack-2.ensures (placed_of T b.1 R) Last R.last_rows;
              blank = blanked e R G.2 j.blanks.0 j.blanks.1;
            },
            G.1,
          );
    }
