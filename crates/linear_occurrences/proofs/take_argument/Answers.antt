-- `take_argument` meets its contract: the node that the argument peels to is the one that is taken.
use native.Mathlib.Omega.{arith}
use mathlib.Core.Path.{ap}
use mathlib.Core.Bool.{Bool}
use Prim.Native.Nat.{◌<◌}
use Rattle.image.specs.Pick.{pick}
use Rattle.nodes.specs.Shown.{View, tree_of}
use Rattle.nodes.proofs.Parts.{past, few}
use Rattle.linear_occurrences.proofs.Cells.{cells-as, cells-none, cells-one}
use Rattle.linear_occurrences.proofs.Taken.{peels-over, peels-so}
use Rattle.linear_occurrences.proofs.take_argument.Goals as goal

pub take-requires : goal.take-requires
take-requires c =
    let found : (W : View c.args.nodes.now c.args.base) → (c.down-bottom.result < (tree_of W).end c.args.argument) × (c.down-bottom.result < 2048) = λ W. let e = c.end.ensures W in let h = (past W c.requires.2).1 in let f = (few W).0 in let l = c.if-bottom-end.true in (omega arith, omega arith) in
    let d = c.requires in ((found d.0).1, d.1.2)

pub returns-then-bottom-end : goal.returns-then-bottom-end
returns-then-bottom-end c =
    let found : (W : View c.args.nodes.now c.args.base) → (c.down-bottom.result < (tree_of W).end c.args.argument) × (c.down-bottom.result < 2048) = λ W. let e = c.end.ensures W in let h = (past W c.requires.2).1 in let f = (few W).0 in let l = c.if-bottom-end.true in (omega arith, omega arith) in
    λ W P C.
    rw c.take.ensures (cells-as (λ i. ap (λ (b : Bool). pick b c.args.call (P i)) (peels-so (tree_of W) _ _ (c.down-bottom.ensures.1 W) (found W).0 i)) (cells-one _ C (found W).1))

pub returns-else-bottom-end : goal.returns-else-bottom-end
returns-else-bottom-end c = λ W P C. cells-none _ C (peels-over (tree_of W) _ _ (c.down-bottom.ensures.1 W) (let e = c.end.ensures W in omega arith))
