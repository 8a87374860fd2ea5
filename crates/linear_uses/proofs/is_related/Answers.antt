-- `is_related` meets its contract: the turn of the related one, without a mark and with one.
use Prim.Native.Nat.{ℕ}
use mathlib.Core.Path.{◌≡◌, ap, ◌∙◌, sym}
use lib.Dec.{eqb}
use Rattle.linear_rows.proofs.Judged.{marks-cell}
use Rattle.linear_rows.proofs.Tallied.{turn-unmarked, turn-marked}
use Rattle.linear_uses.proofs.is_related.Goals as goal

-- the count and the turn, as the code has them
at_turn : {a b k n : ℕ} → a ≡ b → n ≡ k → eqb a k ≡ eqb b n
at_turn {b = b} {k = k} d e = ap (λ (j : ℕ). eqb j k) d ∙ ap (eqb b) (sym e)

pub returns-then-cell-eq0 : goal.returns-then-cell-eq0
returns-then-cell-eq0 c =
    let g = c.args in
    at_turn c.cell-count.ensures.0 (turn-unmarked (sym (marks-cell g.tallies.now g.row c.cell.ensures.0) ∙ c.if-cell-eq0.true))

pub returns : goal.returns
returns c =
    let g = c.args in
    at_turn c.cell-count.ensures.0 (turn-marked (λ e. c.if-cell-eq0.false (marks-cell g.tallies.now g.row c.cell.ensures.0 ∙ e)))
