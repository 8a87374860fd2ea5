-- `genesis_emits` meets its contract: without a Genesis there is nothing.
use native.Mathlib.Omega.{arith}
use mathlib.Core.Path.{refl}
use Rattle.rules.specs.Sweep.{has}
use Rattle.rules.specs.Vocabulary.{below}
use Rattle.rules.specs.Resolve.{emits}
use Rattle.records.proofs.Laws.{added-nothing}
use Rattle.records.proofs.Sweep.{run-empty, keep-none}
use Rattle.resolve_events.proofs.genesis_emits.Goals as goal

pub returns-then-not-has : goal.returns-then-not-has
unfolding emits below
returns-then-not-has c = added-nothing (λ T. run-empty _ _ _ (λ i l h. keep-none _ i (c.requires.2 c.if-not-has.true T.emitting.view i (omega arith) (omega arith))))

pub emits-requires : goal.emits-requires
unfolding has
emits-requires c = (c.requires.0, refl, c.requires.1)

pub returns : goal.returns
returns c = c.emits.ensures
