-- `name_step` meets its contract: the file ends, or the name and its answers stand there.
use borrow.Author.Rules.{rules}
use mathlib.Core.Path.{refl}
use Rattle.replay.proofs.Laws.{name_ends, name-cut, name-whole, name-told}
use Rattle.replay.proofs.name_step.Goals as goal

pub returns-then-n-at-lt1-clause-value : goal.returns-then-n-at-lt1-clause-value
returns-then-n-at-lt1-clause-value g c = name_ends _ _ _ _ c.if-n-at-lt1.true refl

pub returns-then-n-from-clause-value : goal.returns-then-n-from-clause-value
returns-then-n-from-clause-value g c =
    name-cut _ _ _ _ c.u8_at-size.result c.if-n-at-lt1.false c.u8_at-size.ensures.0 c.if-n-from.true refl

pub returns-in_err-differ-clause-err : goal.returns-in_err-differ-clause-err
returns-in_err-differ-clause-err g c =
    let one = name-told c.args.file.now c.args.case.refusal c.args.image.now c.args.at c.u8_at-size.result c.if-n-at-lt1.false c.u8_at-size.ensures.0 c.if-n-from.false c.in_err-differ.ensures.err in search rules

pub returns-clause-value : goal.returns-clause-value
returns-clause-value g c =
    name-whole _ _ _ _ c.u8_at-size.result _ c.if-n-at-lt1.false c.u8_at-size.ensures.0 c.if-n-from.false c.in_ok-differ.ensures.ok.0 refl
