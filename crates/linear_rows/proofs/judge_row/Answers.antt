-- `judge_row` meets its contract: 61, then 62, and the row is blank again.
use Rattle.linear_rows.specs.Tallies.{marks_at, count_at, related_at}
use Rattle.linear_rows.proofs.Judged.{row-judged}
use Rattle.linear_rows.proofs.judge_row.Goals as goal

pub returns : goal.returns
returns c =
    let s = c.args.tallies.now in
    let r = c.args.row in record {
      adds = row-judged (marks_at s r) (count_at s r) (related_at s r) c.is_unused.result c.used_twice.result c.from-place.ensures c.is_unused.ensures (c.used_twice.ensures c.from-place.result)
          c.emit_if-first.ensures c.emit_hit-total.ensures;
      tallies_value = c.blank.ensures;
    }
