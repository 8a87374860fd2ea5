-- `of_no_name` meets its contract: no bytes but `QTOV`, and those to one question.
use Rattle.model.proofs.of_no_name.Goals as goal

pub returns-in-Known : goal.returns-in-Known
returns-in-Known c = rw c.in-Known.is c.equal.ensures
