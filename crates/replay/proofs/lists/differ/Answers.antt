-- `differ` meets its contract: the whole list, a buffer that is too short, and the parts.
use borrow.Author.Rules.{rules}
use Rattle.replay.proofs.Laws.{lists-are, lists-told}
use Rattle.replay.proofs.lists.differ.Goals as goal

pub returns-in_err-a-clause-err : goal.returns-in_err-a-clause-err
returns-in_err-a-clause-err g c =
    let all = lists-told c.args.file.now c.args.at c.args.count c.args.case.refusal c.args.image.now c.part_of-whole.ensures c.parts_of-parts.ensures.value in
    let one = c.in_err-a.ensures.err in search rules

pub returns-in_err-b-clause-err : goal.returns-in_err-b-clause-err
returns-in_err-b-clause-err g c =
    let all = lists-told c.args.file.now c.args.at c.args.count c.args.case.refusal c.args.image.now c.part_of-whole.ensures c.parts_of-parts.ensures.value in
    let one = c.in_err-b.ensures.err in search rules

pub returns-in_err-c-clause-err : goal.returns-in_err-c-clause-err
returns-in_err-c-clause-err g c =
    let all = lists-told c.args.file.now c.args.at c.args.count c.args.case.refusal c.args.image.now c.part_of-whole.ensures c.parts_of-parts.ensures.value in
    let one = c.in_err-c.ensures.err in search rules

pub returns-clause-ok : goal.returns-clause-ok
returns-clause-ok g c = (
  lists-are c.args.file.now c.args.at c.args.count c.args.case.refusal c.args.image.now c.part_of-whole.ensures c.parts_of-parts.ensures.value
      c.in_ok-a.ensures.ok.0 c.in_ok-b.ensures.ok.0 c.in_ok-c.ensures.ok.0,
  search rules,
)
