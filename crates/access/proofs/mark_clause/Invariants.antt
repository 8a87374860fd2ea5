-- `mark_clause` meets its contract: a clause of another kind is left out, and all below a Writes clause are Names.
use Rattle.rules.specs.Sweep.{same}
use Rattle.rules.specs.Tree.{name}
use Rattle.nodes.specs.Shown.{View, tree_of}
use Rattle.nodes.proofs.Walking.{Walking}
use Rattle.access.proofs.mark_clause.Given as goal

abbrev pub invariant-loop-p : goal.invariant-loop-p
invariant-loop-p l = Walking l.on (λ (W : View l.nodes 0). W) name (λ W w n. same ((tree_of W).text n) w) l.clause l.end l.initial.written l.written l.p
