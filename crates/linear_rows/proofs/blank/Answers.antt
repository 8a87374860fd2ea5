-- `blank` meets its contract: three stores.
use Prim.Native.Nat.{ℕ, ◌+◌, ◌*◌}
use mathlib.Core.Path.{ap}
use lib.ListN.{set}
use Rattle.linear_rows.proofs.Judged.{cell-first}
use Rattle.linear_rows.proofs.blank.Goals as goal

pub returns : goal.returns
returns c = ap (λ (i : ℕ). set (set (set c.args.tallies.now i 0) (3 * c.args.row + 1) 0) (3 * c.args.row + 2) 0) (cell-first c.args.row)
