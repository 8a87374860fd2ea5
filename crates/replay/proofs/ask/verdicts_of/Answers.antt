-- `verdicts_of` meets its contract: each of the three, or the refusal in place of each.
use Rattle.replay.proofs.ask.verdicts_of.Goals as goal

pub returns-in-Err : goal.returns-in-Err
returns-in-Err c = rw c.in-Err.is at c.verdicts.ensures

pub returns-in-Ok : goal.returns-in-Ok
returns-in-Ok c = rw c.in-Ok.is at c.verdicts.ensures
