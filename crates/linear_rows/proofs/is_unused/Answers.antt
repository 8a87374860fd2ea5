-- `is_unused` meets its contract: marks plus occurrences are 0.
use Prim.Native.Nat.{ℕ, ◌+◌, ◌*◌}
use mathlib.Core.Path.{ap, ◌∙◌}
use lib.ListN.{get_or}
use lib.Dec.{eqb}
use Rattle.linear_rows.proofs.Judged.{marks-cell}
use Rattle.linear_rows.proofs.is_unused.Goals as goal

pub returns : goal.returns
returns c =
    let s = c.args.tallies.now in
    let r = c.args.row in
    ap (λ (m : ℕ). eqb (m + c.cell-2.result) 0) (marks-cell s r c.cell.ensures.0) ∙ ap (λ (m : ℕ). eqb (get_or s (3 * r) 0 + m) 0) c.cell-2.ensures.0
