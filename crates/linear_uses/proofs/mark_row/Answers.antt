-- `mark_row` meets its contract: the table notes no row, or one that has a mark more.
use native.Mathlib.Omega.{arith}
use Prim.Native.Nat.{◌+◌, ◌*◌, ◌-◌}
use mathlib.Core.Path.{◌≡◌, ◌∙◌}
use Rattle.linear_uses.proofs.Uses.{given}
use Rattle.linear_uses.proofs.Tally.{tally-none, tally-mark}
use Rattle.linear_uses.proofs.mark_row.Goals as goal

pub returns-then-row-eq0 : goal.returns-then-row-eq0
returns-then-row-eq0 c = λ T M x t. tally-none _ x t ((given _ T c.at-row.ensures.1).is ∙ c.if-row-eq0.true)

pub add_one-requires : goal.add_one-requires
add_one-requires c =
    let l = (given _ c.requires.0 c.at-row.ensures.1).before c.if-row-eq0.false in
    let z : 3 * (c.at-row.result - 1) + 0 ≡ 3 * (c.at-row.result - 1) = omega arith in
    (l, omega arith, rw z (c.requires.2.more_marks (c.at-row.result - 1) l))

pub returns : goal.returns
returns c =
    λ T M x t.
    let g = given _ T c.at-row.ensures.1 in
    let e = g.is in
    let h = g.few in
    let n = c.if-row-eq0.false in
    rw c.add_one.ensures (tally-mark _ x t (3 * (c.at-row.result - 1) + 0) (omega (arith, n)) (omega arith) (omega arith))
