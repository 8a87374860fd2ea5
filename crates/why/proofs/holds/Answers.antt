-- `holds` meets its contract: the three tests in turn.
use mathlib.Core.Path.{sym, ◌∙◌}
use borrow.Author.Tests.{eq-eqb, ne_eqb, lt-ltb, le-ltb}
use Rattle.why.proofs.holds.Goals as goal

pub returns-then-kind-ne-ENTRY : goal.returns-then-kind-ne-ENTRY
returns-then-kind-ne-ENTRY c = λ W. simp (ne_eqb _ 9 (λ e. c.if-kind-ne-ENTRY.true (c.kind.ensures W ∙ e)))

pub returns-then-place-item : goal.returns-then-place-item
returns-then-place-item c = λ W. simp (eq-eqb _ 9 (sym (c.kind.ensures W) ∙ c.if-kind-ne-ENTRY.false), le-ltb _ _ c.if-place-item.true)

pub returns : goal.returns
returns c = λ W. simp (eq-eqb _ 9 (sym (c.kind.ensures W) ∙ c.if-kind-ne-ENTRY.false), lt-ltb _ _ c.if-place-item.false)
