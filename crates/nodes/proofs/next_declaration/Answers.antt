-- `next_declaration` meets its contract: into a State, past another node.
use mathlib.Core.Path.{refl, sym, ◌∙◌}
use mathlib.Core.Logic.{inl, inr}
use Rattle.rules.specs.Tree.{state}
use Rattle.records.proofs.Sweep.{has_one, has-not}
use Rattle.nodes.specs.Shown.{tree_of}
use Rattle.nodes.proofs.Parts.{end_is}
use Rattle.nodes.proofs.Walks.{onward-into, onward-past}
use Rattle.nodes.proofs.next_declaration.Goals as goal

pub returns-then-kind-eq-STATE-clause-moved : goal.returns-then-kind-eq-STATE-clause-moved
returns-then-kind-eq-STATE-clause-moved c = λ W. onward-into (tree_of W) state _ (has_one _ 3 (sym (c.kind.ensures W) ∙ c.if-kind-eq-STATE.true))

pub returns-then-kind-eq-STATE-clause-goes_on : goal.returns-then-kind-eq-STATE-clause-goes_on
returns-then-kind-eq-STATE-clause-goes_on c = inl refl

pub returns-clause-moved : goal.returns-clause-moved
returns-clause-moved c = λ W. onward-past (tree_of W) state _ (has-not _ 3 (λ e. c.if-kind-eq-STATE.false (c.kind.ensures W ∙ e))) (c.end.ensures.0 ∙ end_is W c.requires)

pub returns-clause-goes_on : goal.returns-clause-goes_on
returns-clause-goes_on c = inr c.end.ensures.0
