-- `name_at` meets its contract: the node after a Let, or the place itself, which is a Name.
use native.Mathlib.Omega.{arith}
use mathlib.Core.Path.{◌∙◌, sym}
use Rattle.linear_tracked.proofs.Place.{place_in, name-after, name-here}
use Rattle.linear_tracked.proofs.name_at.Goals as goal

pub kind-requires : goal.kind-requires
kind-requires c = place_in c.requires

pub overflow_add-result : goal.overflow_add-result
overflow_add-result c = let i = (place_in c.requires).2 in omega arith

pub returns-then-kind-eq-LET : goal.returns-then-kind-eq-LET
returns-then-kind-eq-LET c = λ T. name-after T (sym (c.kind.ensures T.view) ∙ c.if-kind-eq-LET.true)

pub returns : goal.returns
returns c = λ T. name-here T (λ e. c.if-kind-eq-LET.false (c.kind.ensures T.view ∙ e))
