-- `is_marked` meets its contract: the mark by the number of the node's word.
use native.Mathlib.Omega.{arith}
use mathlib.Core.Path.{◌∙◌, ap}
use mathlib.Core.Bool.{false}
use Prim.Native.Nat.{ℕ, ◌-◌}
use lib.ListN.{get_or}
use Rattle.nodes.proofs.Parts.{tells}
use Rattle.nodes.proofs.Turns.{numbered, carries-in}
use Rattle.nodes.proofs.is_marked.Goals as goal

pub overflow_sub-result : goal.overflow_sub-result
overflow_sub-result c = let g = numbered c.requires c.name-x.ensures in omega arith

pub bounds-marks-x : goal.bounds-marks-x
bounds-marks-x c = let g = numbered c.requires c.name-x.ensures in omega arith

pub returns : goal.returns
returns c = λ W P M. ap (λ (x : ℕ). get_or c.args.marks.now (x - 1) false) (c.name-x.ensures W) ∙ tells W c.requires.here M (carries-in W c.requires)
