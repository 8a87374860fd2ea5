-- `count_all` meets its contract: pass by pass.
use native.Mathlib.Omega.{arith}
use Rattle.rules.specs.Tree.{tree}
use Rattle.passes.proofs.Laws.{offences-many}
use Rattle.passes.proofs.count_all.Goals as goal

pub returns : goal.returns
returns c = let n = offences-many (tree c.args.image.now) in (omega arith, omega arith)
