-- `image_step` meets its contract: the file ends, or the image and its answers stand there.
use mathlib.Core.Path.{refl}
use Rattle.replay.proofs.Laws.{steps-as, fails-as, image-ends, image-cut, image-whole, image-told}
use Rattle.replay.proofs.image_step.Goals as goal

pub returns-then-n-at-lt4-clause-value : goal.returns-then-n-at-lt4-clause-value
returns-then-n-at-lt4-clause-value g c = image-ends _ _ c.if-n-at-lt4.true refl

pub returns-then-n-from-clause-value : goal.returns-then-n-from-clause-value
returns-then-n-from-clause-value g c =
    image-cut _ _ c.u32_at-size.result c.if-n-at-lt4.false c.u32_at-size.ensures.0 c.if-n-from.true refl

pub returns-clause-value : goal.returns-clause-value
returns-clause-value g c =
    steps-as c.answers_step.result (image-whole c.args.file.now c.args.at c.u32_at-size.result c.if-n-at-lt4.false c.u32_at-size.ensures.0 c.if-n-from.false refl) c.answers_step.ensures.value

pub returns-clause-err : goal.returns-clause-err
returns-clause-err g c =
    fails-as c.answers_step.result (image-told c.args.file.now c.args.at c.u32_at-size.result c.if-n-at-lt4.false c.u32_at-size.ensures.0 c.if-n-from.false) c.answers_step.ensures.err
