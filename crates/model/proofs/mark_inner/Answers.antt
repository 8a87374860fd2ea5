-- `mark_inner` meets its contract: the mark of the name inside, where there is one.
use native.Mathlib.Omega.{arith}
use mathlib.Core.Path.{ap, ◌∙◌, sym}
use mathlib.Core.Bool.{true}
use mathlib.Core.Logic.{inl}
use Rattle.nodes.specs.Marks.{marking}
use Rattle.nodes.proofs.Names.{marks-as}
use Rattle.nodes.proofs.Marking.{marking-none}
use Rattle.model.proofs.mark_inner.Goals as goal

pub mark-requires : goal.mark-requires
mark-requires c = let A = c.requires.0 in let I = c.inner_of-name.ensures A in record { view = A.view; here = I.here c.if-name-gt0.true; carries = inl (I.name c.if-name-gt0.true) }

pub returns-then-name-gt0 : goal.returns-then-name-gt0
returns-then-name-gt0 c = λ A P M. marks-as (λ w. ap (marking true (P w)) (sym ((c.inner_of-name.ensures A).is c.if-name-gt0.true w))) (c.mark.ensures A.view P M)

pub returns-else-name-gt0 : goal.returns-else-name-gt0
returns-else-name-gt0 c = λ A P M. marks-as (λ w. sym (ap (marking true (P w)) ((c.inner_of-name.ensures A).none (let l = c.if-name-gt0.false in omega arith) w) ∙ marking-none true (P w))) M
