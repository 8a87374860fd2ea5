-- `images_step` meets its contract: one image after the other.
use borrow.Author.Rules.{rules}
use mathlib.Core.Path.{refl, sym, ◌∙◌}
use Rattle.replay.specs.Differences.{image_step, image_told}
use Rattle.replay.proofs.Laws.{stepped-none, stepped-more, stepped-stop, stepped-all, told-none, told-more, told-here}
use Rattle.replay.proofs.images_step.Goals as goal

pub loop-number-init : goal.loop-number-init
loop-number-init g c = (stepped-none _ _ _, told-none _ _ _ _, search rules, search rules, search rules)

pub returns-in_err-found-clause-err : goal.returns-in_err-found-clause-err
returns-in_err-found-clause-err g c =
    let one = told-here (image_told c.args.file.now) (image_step c.args.file.now) c.args.count 4 c.loop-number.number c.loop-number.next c.loop-number.invariant.1 (search rules) c.in_err-found.ensures.err in search rules

pub returns-in_default-clause-value : goal.returns-in_default-clause-value
returns-in_default-clause-value g c =
    stepped-stop (image_step c.args.file.now) c.args.count 4 c.loop-number.number _ _ c.loop-number.invariant.0 (search rules) (sym c.in_default.is ∙ c.in_ok-found.ensures.value)

pub loop-number-preserved : goal.loop-number-preserved
loop-number-preserved g c = (
  stepped-more (image_step c.args.file.now) c.args.count 4 c.loop-number.number _ _ c.loop-number.invariant.0 (search rules) (sym c.in-Some.is ∙ c.in_ok-found.ensures.value),
  told-more (image_told c.args.file.now) (image_step c.args.file.now) c.args.count 4 c.loop-number.number _ c.loop-number.invariant.1 (search rules) (sym c.in-Some.is ∙ c.in_ok-found.ensures.value),
  search rules,
  search rules,
  search rules,
)

pub returns-clause-value : goal.returns-clause-value
returns-clause-value g c = stepped-all (image_step c.args.file.now) c.args.count 4 c.loop-number.number _ _ c.loop-number.invariant.0 (search rules) refl
