-- `answers_step` meets its contract: the answers of an image in the order of the file.
use borrow.Author.Rules.{rules}
use mathlib.Core.Path.{refl, sym, ◌∙◌}
use Rattle.replay.proofs.Laws.{answers-cut, answers-whole, answers-told}
use Rattle.replay.proofs.answers_step.Goals as goal

pub returns-then-file-list-clause-value : goal.returns-then-file-list-clause-value
returns-then-file-list-clause-value g c =
    answers-cut c.args.file.now c.args.at c.args.image.now c.u32_at-count.result c.u8_at-refusal.result c.u32_at-count.ensures.0 c.u8_at-refusal.ensures.0 c.if-file-list.true refl

pub returns-in_err-a-clause-err : goal.returns-in_err-a-clause-err
returns-in_err-a-clause-err g c =
    let all = answers-told c.args.file.now c.args.at c.args.image.now c.u32_at-count.result c.u8_at-refusal.result _ c.u32_at-count.ensures.0 c.u8_at-refusal.ensures.0 c.if-file-list.false refl in
    let one = c.in_err-a.ensures.err in search rules

pub returns-in_err-b-clause-err : goal.returns-in_err-b-clause-err
returns-in_err-b-clause-err g c =
    let all = answers-told c.args.file.now c.args.at c.args.image.now c.u32_at-count.result c.u8_at-refusal.result _ c.u32_at-count.ensures.0 c.u8_at-refusal.ensures.0 c.if-file-list.false refl in
    let one = c.in_err-b.ensures.err in search rules

pub returns-in_err-c-clause-err : goal.returns-in_err-c-clause-err
returns-in_err-c-clause-err g c =
    let all = answers-told c.args.file.now c.args.at c.args.image.now c.u32_at-count.result c.u8_at-refusal.result _ c.u32_at-count.ensures.0 c.u8_at-refusal.ensures.0 c.if-file-list.false refl in
    let one = c.in_err-c.ensures.err in search rules

pub returns-in_err-d-clause-err : goal.returns-in_err-d-clause-err
returns-in_err-d-clause-err g c =
    let all = answers-told c.args.file.now c.args.at c.args.image.now c.u32_at-count.result c.u8_at-refusal.result _ c.u32_at-count.ensures.0 c.u8_at-refusal.ensures.0 c.if-file-list.false refl in
    let one = c.in_err-d.ensures.err in search rules

pub returns-in_err-found-clause-err : goal.returns-in_err-found-clause-err
returns-in_err-found-clause-err g c =
    let all = answers-told c.args.file.now c.args.at c.args.image.now c.u32_at-count.result c.u8_at-refusal.result _ c.u32_at-count.ensures.0 c.u8_at-refusal.ensures.0 c.if-file-list.false c.u8_at-asked.ensures.0 in
    let one = c.in_err-found.ensures.err in search rules

pub returns-clause-value : goal.returns-clause-value
returns-clause-value g c =
    answers-whole c.args.file.now c.args.at c.args.image.now c.u32_at-count.result c.u8_at-refusal.result c.u8_at-asked.result c.u32_at-count.ensures.0 c.u8_at-refusal.ensures.0 c.if-file-list.false c.in_ok-a.ensures.ok.0 c.in_ok-b.ensures.ok.0 c.in_ok-c.ensures.ok.0 c.in_ok-d.ensures.ok.0 c.u8_at-asked.ensures.0 (sym c.in-Some.is ∙ c.in_ok-found.ensures.value)

pub returns-in_default-clause-value : goal.returns-in_default-clause-value
returns-in_default-clause-value g c =
    answers-whole c.args.file.now c.args.at c.args.image.now c.u32_at-count.result c.u8_at-refusal.result c.u8_at-asked.result c.u32_at-count.ensures.0 c.u8_at-refusal.ensures.0 c.if-file-list.false c.in_ok-a.ensures.ok.0 c.in_ok-b.ensures.ok.0 c.in_ok-c.ensures.ok.0 c.in_ok-d.ensures.ok.0 c.u8_at-asked.ensures.0 (sym c.in_default.is ∙ c.in_ok-found.ensures.value)
