-- `used_ok` meets its contract: every mark passed is set.
use borrow.Author.Rules.{rules}
use mathlib.Core.Path.{sym}
use Rattle.image.specs.Digits.{mark_at}
use Rattle.image.proofs.Every.{every-none, every_more, every-fails, every-all}
use Rattle.admission.proofs.used_ok.Goals as goal

pub loop-k-init : goal.loop-k-init
loop-k-init c = (search rules, every-none _)

pub returns-then-not-marks-k : goal.returns-then-not-marks-k
unfolding mark_at
returns-then-not-marks-k c = sym (every-fails _ _ _ c.loop-k-test.true c.if-not-marks-k.true)

pub loop-k-preserved : goal.loop-k-preserved
unfolding mark_at
loop-k-preserved c = (search rules, every_more _ _ c.loop-k.invariant.1 c.if-not-marks-k.false)

pub returns : goal.returns
returns c = sym (every-all _ _ _ c.loop-k.invariant.0 c.loop-k-test.false c.loop-k.invariant.1)
