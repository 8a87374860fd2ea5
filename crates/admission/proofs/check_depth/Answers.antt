-- `check_depth` meets its contract.
use borrow.Author.Tests.{lt-ltb, le-ltb}
use Rattle.admission.proofs.check_depth.Goals as goal

pub returns-then-deepest-lt-DEPTH : goal.returns-then-deepest-lt-DEPTH
returns-then-deepest-lt-DEPTH c = simp (lt-ltb _ _ c.if-deepest-lt-DEPTH.true)

pub returns : goal.returns
returns c = simp (le-ltb _ _ c.if-deepest-lt-DEPTH.false)
