-- `verdicts_differ` meets its contract: pass by pass, of the verdicts that are asked for at once.
use borrow.Author.Rules.{rules}
use Prim.Native.Nat.{◌+◌}
use Rattle.rules.specs.Resolve.{resolve}
use Rattle.rules.specs.Access.{access}
use Rattle.rules.specs.Linear.{linear}
use Rattle.replay.proofs.Laws.{judged-differs, judged-told}
use Rattle.replay.proofs.verdicts_differ.Goals as goal

pub returns-in_err-a-clause-err : goal.returns-in_err-a-clause-err
returns-in_err-a-clause-err g c =
    let one = judged-told resolve c.args.file.now c.args.at c.args.case.refusal c.args.image.now c.verdicts_of-verdicts.ensures.0 c.in_err-a.ensures.err in search rules

pub returns-in_err-b-clause-err : goal.returns-in_err-b-clause-err
returns-in_err-b-clause-err g c =
    let one = judged-told access c.args.file.now (c.args.at + 12) c.args.case.refusal c.args.image.now c.verdicts_of-verdicts.ensures.1 c.in_err-b.ensures.err in search rules

pub returns-in_err-c-clause-err : goal.returns-in_err-c-clause-err
returns-in_err-c-clause-err g c =
    let one = judged-told linear c.args.file.now (c.args.at + 24) c.args.case.refusal c.args.image.now c.verdicts_of-verdicts.ensures.2 c.in_err-c.ensures.err in search rules

pub returns-clause-ok : goal.returns-clause-ok
returns-clause-ok g c =
    let a' = judged-differs resolve c.args.file.now c.args.at c.args.case.refusal c.args.image.now c.in_ok-a.ensures.ok.0 c.verdicts_of-verdicts.ensures.0 in
    let b' = judged-differs access c.args.file.now (c.args.at + 12) c.args.case.refusal c.args.image.now c.in_ok-b.ensures.ok.0 c.verdicts_of-verdicts.ensures.1 in
    let c' = judged-differs linear c.args.file.now (c.args.at + 24) c.args.case.refusal c.args.image.now c.in_ok-c.ensures.ok.0 c.verdicts_of-verdicts.ensures.2 in
    search rules
