-- `short_differs` meets its contract: nothing where there is no record, else 9.
use borrow.Author.Rules.{rules}
use Rattle.std.proofs.Common.{refl, le_refl}
use Rattle.replay.proofs.Laws.{counts-as, fails-as, short_none, short-some}
use Rattle.replay.proofs.lists.short_differs.Goals as goal

pub returns-then-count-eq0-clause-ok : goal.returns-then-count-eq0-clause-ok
returns-then-count-eq0-clause-ok g c = (short_none _ _ c.if-count-eq0.true, search rules)

pub returns-clause-ok : goal.returns-clause-ok
returns-clause-ok g c =
    counts-as c.differs.result (short-some _ _ c.if-count-eq0.false c.answer_in-answer.ensures.value.0 refl) (le_refl 1) c.differs.ensures.ok

pub returns-clause-err : goal.returns-clause-err
returns-clause-err g c =
    fails-as c.differs.result (short-some _ _ c.if-count-eq0.false c.answer_in-answer.ensures.value.0 refl) c.differs.ensures.err
