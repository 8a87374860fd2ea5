-- `end` meets its contract: the word that the part holds for the node is the tree's.
use mathlib.Core.Path.{◌∙◌}
use Rattle.nodes.proofs.Parts.{end_is}
use Rattle.nodes.proofs.end.Goals as goal

pub returns : goal.returns
returns c = λ W. c.end.ensures.0 ∙ end_is W c.requires
