-- `start` meets its contract: its tests are those of the definition.
use mathlib.Core.Path.{sym, ◌∙◌}
use borrow.Author.Tests.{eq-eqb, ne_eqb}
use Rattle.linear_steps.specs.Step.{start_of}
use Rattle.linear_steps.proofs.start.Goals as goal

pub returns-then-refused-ne0 : goal.returns-then-refused-ne0
unfolding start_of
returns-then-refused-ne0 c = c.state_of.ensures ∙ sym (simp (ne_eqb _ _ c.if-refused-ne0.true))

pub returns-then-alias-eq0 : goal.returns-then-alias-eq0
unfolding start_of
returns-then-alias-eq0 c = c.state_of-then-alias-eq0.ensures ∙ sym (simp (eq-eqb _ _ c.if-refused-ne0.false, eq-eqb _ _ c.if-alias-eq0.true))

pub returns : goal.returns
unfolding start_of
returns c = c.state_of-2.ensures ∙ sym (simp (eq-eqb _ _ c.if-refused-ne0.false, ne_eqb _ _ c.if-alias-eq0.false))
