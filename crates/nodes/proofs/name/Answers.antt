-- `name` meets its contract: the number that the part holds for the node is the image's.
use mathlib.Core.Path.{◌∙◌}
use Rattle.nodes.proofs.Parts.{number_is}
use Rattle.nodes.proofs.name.Goals as goal

pub returns : goal.returns
returns c = λ W. c.name.ensures.0 ∙ number_is W c.requires
