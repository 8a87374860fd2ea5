-- `zeros_ok` meets its contract: the sum of both is 0.
use native.Mathlib.Omega.{arith}
use Prim.Native.Nat.{ℕ, ◌+◌, ◌*◌}
use mathlib.Core.Path.{◌≡◌, ap}
use lib.ListN.{get_or}
use lib.Dec.{eqb}
use Rattle.image.specs.Node.{half}
use Rattle.steps.proofs.zeros_ok.Goals as goal

pub returns : goal.returns
returns c =
    let a = c.args in
    let e : c.from.result + c.half_at.result ≡ get_or a.nodes.now (16 * a.i + 1) 0 + half a.nodes.now (16 * a.i + 6) = omega arith in
    ap (λ (x : ℕ). eqb x 0) e
