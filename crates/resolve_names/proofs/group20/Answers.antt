-- `group20` meets its contract: fields.
use native.Mathlib.Omega.{arith}
use mathlib.Core.Path.{refl}
use mathlib.Core.Logic.{inl}
use Rattle.rules.specs.Sweep.{has}
use Rattle.rules.specs.Resolve.{rule20, group20}
use Rattle.resolve_names.proofs.group20.Goals as goal

pub repeated-requires : goal.repeated-requires
unfolding has
repeated-requires c = (((omega arith, refl), refl), c.requires.0, c.requires.1, c.requires.2, inl refl)

pub returns : goal.returns
unfolding group20 rule20
returns c = c.repeated.ensures
