-- `mark_number` meets its contract: the word's number is marked, if it has one.
use native.Mathlib.Omega.{arith}
use Rattle.names.proofs.Marked.{word_none, word-marks}
use Rattle.names.proofs.mark_number.Goals as goal

pub returns-then-number-gt0 : goal.returns-then-number-gt0
returns-then-number-gt0 c = λ s w P e N M. word-marks e N P M c.if-number-gt0.true

pub returns-else-number-gt0 : goal.returns-else-number-gt0
returns-else-number-gt0 c = λ s w P e N M. word_none e N P M (let h = c.if-number-gt0.false in omega arith)
