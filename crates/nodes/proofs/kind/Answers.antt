-- `kind` meets its contract: the byte that the part holds for the node is the tree's.
use mathlib.Core.Path.{◌∙◌}
use Rattle.nodes.proofs.Parts.{kind-is}
use Rattle.nodes.proofs.kind.Goals as goal

pub returns : goal.returns
returns c = λ W. c.kind.ensures.0 ∙ kind-is W c.requires
