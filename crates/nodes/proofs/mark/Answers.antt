-- `mark` meets its contract: the mark by the number of the node's word is set, or taken off.
use native.Mathlib.Omega.{arith}
use Rattle.nodes.proofs.Turns.{numbered, marks-name, carries-in}
use Rattle.nodes.proofs.mark.Goals as goal

pub overflow_sub-marks : goal.overflow_sub-marks
overflow_sub-marks c = let g = numbered c.requires c.name-x.ensures in omega arith

pub bounds-marks-x : goal.bounds-marks-x
bounds-marks-x c = let g = numbered c.requires c.name-x.ensures in omega arith

pub returns : goal.returns
returns c = λ W P M. rw (c.name-x.ensures W) (marks-name _ W c.requires.here (carries-in W c.requires) M)
