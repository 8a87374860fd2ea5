-- `judge` meets its contract: the first record's code and place, with the span words of its place.
use Rattle.passes.proofs.Laws.{first_none, first_one}
use Rattle.passes.proofs.judge.Goals as goal

pub returns-then-count-eq0 : goal.returns-then-count-eq0
returns-then-count-eq0 c = λ _ l L. first_none c.args.image.now l L c.if-count-eq0.true

pub returns : goal.returns
returns c = λ _ l L. first_one c.args.image.now l L c.if-count-eq0.false c.from.ensures c.of_place-span.ensures.0 c.of_place-span.ensures.1
