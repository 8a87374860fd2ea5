-- `untrack` meets its contract: row by row, until no name of a row has anything noted.
use native.Mathlib.Omega.{arith}
use mathlib.Core.Path.{refl}
use Rattle.rules.specs.Vocabulary.{named}
use Rattle.nodes.specs.Shown.{tree_of}
use Rattle.nodes.proofs.Names.{marks-as}
use Rattle.nodes.proofs.Folding.{folding-starts, folding-again, folding-done}
use Rattle.linear_parts.specs.Parts.{rows_of}
use Rattle.linear_tracked.proofs.Place.{row-placed}
use Rattle.linear_tracked.proofs.Off.{rows-off}
use Rattle.linear_tracked.proofs.untrack.Goals as goal

pub loop-k-init : goal.loop-k-init
loop-k-init c = folding-starts (λ v i. refl) (omega arith)

pub offset_bounds-places-k : goal.offset_bounds-places-k
offset_bounds-places-k c = let f = c.requires.rows.few in omega arith

pub bounds-places-k : goal.bounds-places-k
bounds-places-k c = let f = c.requires.rows.few in omega arith

pub untrack_row-requires : goal.untrack_row-requires
untrack_row-requires c = row-placed c.requires c.loop-k-test.true c.from.ensures

pub loop-k-preserved : goal.loop-k-preserved
loop-k-preserved c = folding-again c.loop-k.invariant (λ T. c.untrack_row.ensures (row-placed T c.loop-k-test.true c.from.ensures)) c.loop-k-test.true

pub returns : goal.returns
returns c = λ T note N. marks-as (λ w. rows-off note (named (tree_of T.view) w) (rows_of T.entry (tree_of T.view)) c.args.n T.rows.count) (folding-done c.loop-k.invariant c.loop-k-test.false T _ N)
