-- `place_of` meets its contract: a Let, or a Param's Name.
use native.Mathlib.Omega.{arith}
use mathlib.Core.Path.{◌∙◌, sym}
use Rattle.nodes.specs.Shown.{tree_of}
use Rattle.rules.proofs.Linear.{let-place, param-place}
use Rattle.linear_parts.proofs.place_of.Goals as goal

pub returns-then-kind-eq-LET : goal.returns-then-kind-eq-LET
returns-then-kind-eq-LET c = (λ W. sym (let-place (tree_of W) _ (sym (c.kind.ensures W) ∙ c.if-kind-eq-LET.true)), omega arith)

pub returns : goal.returns
returns c = (λ W. sym (param-place (tree_of W) _ (λ e. c.if-kind-eq-LET.false (c.kind.ensures W ∙ e))), omega arith)
