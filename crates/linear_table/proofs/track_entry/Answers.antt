-- `track_entry` meets its contract: the first 60 is the second word of the first record.
use Rattle.nodes.specs.Shown.{tree_of}
use Rattle.linear_table.specs.Table.{entry60s}
use Rattle.linear_table.proofs.Sixty.{sixty-none, first60-some}
use Rattle.linear_table.proofs.track_entry.Goals as goal

pub returns-then-tracked-ne0 : goal.returns-then-tracked-ne0
unfolding entry60s
returns-then-tracked-ne0 c = λ T. first60-some (tree_of T.known.view) c.args.entry (c.track-tracked.ensures.adds.laid T) c.if-tracked-ne0.true

pub returns : goal.returns
unfolding entry60s
returns c = λ T. (sixty-none (tree_of T.known.view) c.args.entry (c.track-tracked.ensures.adds.laid T) c.if-tracked-ne0.false, c.track-tracked.ensures.rows_bound.1)
