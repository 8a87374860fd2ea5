-- `group21` meets its contract: events; without an Event there is nothing.
use native.Mathlib.Omega.{arith}
use mathlib.Core.Path.{refl}
use mathlib.Core.Logic.{inr}
use Rattle.rules.specs.Sweep.{has}
use Rattle.rules.specs.Vocabulary.{below}
use Rattle.rules.specs.Resolve.{rule21, group21}
use Rattle.records.proofs.Laws.{added-nothing}
use Rattle.records.proofs.Sweep.{run-empty, keep-none}
use Rattle.resolve_names.proofs.group21.Goals as goal

pub repeated-requires : goal.repeated-requires
unfolding has
repeated-requires c = (((omega arith, refl), refl), c.requires.0, c.requires.1, c.requires.2, inr refl)

pub returns-then-not-has : goal.returns-then-not-has
unfolding group21 below
returns-then-not-has c = added-nothing (λ W. run-empty _ _ _ (λ i l h. keep-none _ i (c.requires.3 c.if-not-has.true W i (omega arith) (omega arith))))

pub returns : goal.returns
unfolding group21 rule21
returns c = c.repeated.ensures
