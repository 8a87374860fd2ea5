-- `mark_yes` meets its contract: each question's own table.
use Rattle.nodes.proofs.Heads.{root-of, view_of}
use Rattle.model.proofs.Known.{marks_of}
use Rattle.model.proofs.mark_yes.Goals as goal

pub mark_state-requires : goal.mark_state-requires
mark_state-requires c = let S = c.area.ensures in (view_of S, root-of S)

pub mark_declared-requires : goal.mark_declared-requires
mark_declared-requires c = let S = c.area-in-Declared.ensures in (view_of S, root-of S)

pub returns-in-State : goal.returns-in-State
returns-in-State c = λ M. marks_of c.in-State.is (c.mark_state.ensures (view_of c.area.ensures) M)

pub returns-in-Declared : goal.returns-in-Declared
returns-in-Declared c = λ M. marks_of c.in-Declared.is (c.mark_declared.ensures (view_of c.area-in-Declared.ensures) M)

pub returns-in-Known : goal.returns-in-Known
returns-in-Known c = λ M. marks_of c.in-Known.is (c.find_known.ensures M)
