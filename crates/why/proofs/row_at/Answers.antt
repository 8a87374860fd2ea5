-- `row_at` meets its contract: none of the rows before the one at hand stands there.
use native.Mathlib.Omega.{arith}
use Prim.Native.Nat.{ℕ, ◌+◌, ◌-◌}
use mathlib.Core.Path.{◌≡◌, sym, ap, ◌∙◌}
use lib.ListN.{get_or}
use mathlib.Core.Logic.{⊎_elim}
use Rattle.image.proofs.Decide.{eq-or-ne}
use Rattle.why.proofs.row_at.Goals as goal

pub returns-then-from-place : goal.returns-then-from-place
returns-then-from-place c =
    let l = c.loop-row-test.true in
    let d : c.loop-row.row + 1 - 1 ≡ c.loop-row.row = omega arith in
    record { after = omega arith; few = omega arith; is = ap (λ (k : ℕ). get_or c.args.places.now k 0) d ∙ sym c.from.ensures ∙ c.if-from-place.true }

pub loop-row-preserved : goal.loop-row-preserved
loop-row-preserved c =
    let i = c.loop-row.invariant in
    let l = c.loop-row-test.true in (
      omega arith,
      λ k h d. ⊎_elim (λ (q : k ≡ c.loop-row.row). c.if-from-place.false (c.from.ensures ∙ ap (λ (j : ℕ). get_or c.args.places.now j 0) (sym q) ∙ d)) (λ (n : k ≡ c.loop-row.row → ⊥). i.1 k (omega (arith, n)) d) (eq-or-ne k c.loop-row.row),
    )

pub returns : goal.returns
returns c = let l = c.loop-row-test.false in λ k h d. c.loop-row.invariant.1 k (omega arith) d
