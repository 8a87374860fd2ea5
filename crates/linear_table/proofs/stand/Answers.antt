-- `stand` meets its contract: row by row; those before k stand in the table, and their tallies are blank.
use native.Mathlib.Omega.{arith}
use mathlib.Core.Path.{◌≡◌, refl}
use Rattle.linear_tracked.proofs.Place.{row-placed}
use Rattle.linear_rows.proofs.Judged.{blanked-none, blanked-on}
use Rattle.linear_table.proofs.Walk.{standing-starts, standing_on, standing-done}
use Rattle.linear_table.proofs.stand.Goals as goal

pub loop-k-init : goal.loop-k-init
loop-k-init c = (blanked-none _, standing-starts)

pub row_of-row-requires : goal.row_of-row-requires
row_of-row-requires c = row-placed c.requires.0 c.loop-k-test.true refl

pub put-requires : goal.put-requires
put-requires c = let h = c.requires.1 in let l = c.loop-k-test.true in omega arith

pub loop-k-preserved : goal.loop-k-preserved
loop-k-preserved c =
    let i = c.loop-k.invariant in
    (blanked-on i.0 c.blank.ensures, standing_on i.1 i.0 c.loop-k-test.true c.requires.1 (λ T. c.row_of-row.ensures (row-placed T c.loop-k-test.true refl)) c.put.ensures)

pub returns : goal.returns
returns c =
    let i = c.loop-k.invariant in
    let h = i.1.high in
    let l = c.loop-k-test.false in
    let e : c.loop-k.k ≡ c.args.n = omega arith in
    let B = rw e at i.0 in
    record { holds = standing-done i.1 l; blanks = (B.size, B.cells) }
