-- Kinds that begin with their Name: the declarations, and the parts of an entry, that the passes mark or note by it.
use mathlib.Core.Path.{refl}
use native.Mathlib.Omega.{arith}
use Rattle.rules.specs.Sweep.{has}
use Rattle.nodes.specs.First.{Declaring, NamedPart, HeadPart}

pub record Naming : Type 0 where
  pub asset : Declaring 2
  pub field : Declaring 4
  pub param : NamedPart 10
  pub head_param : HeadPart 10
  pub burns : HeadPart 18
  pub lets : NamedPart 25

pub naming : Naming
unfolding has
naming = record { asset = ((omega arith, refl), refl); field = ((omega arith, refl), refl); param = ((omega arith, refl), refl); head_param = ((omega arith, refl), refl); burns = ((omega arith, refl), refl); lets = ((omega arith, refl), refl) }
