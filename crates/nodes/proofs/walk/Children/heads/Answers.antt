-- `Children::heads`: behind the first statement of an entry no parameter stands.
use mathlib.Core.Path.{refl}
use Rattle.rules.specs.Sweep.{has}
use Rattle.nodes.proofs.Head.{until-head}
use Rattle.nodes.proofs.walk.Children.heads.Goals as goal

pub until-requires : goal.until-requires
unfolding has
until-requires c = (10, until-head c.requires 10 refl)
