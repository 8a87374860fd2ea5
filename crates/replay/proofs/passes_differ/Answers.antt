-- `passes_differ` meets its contract: the refusal, then pass by pass.
use borrow.Author.Rules.{rules}
use Prim.Native.Nat.{◌+◌}
use Rattle.rules.specs.Resolve.{resolve}
use Rattle.rules.specs.Access.{access}
use Rattle.rules.specs.Linear.{linear}
use Rattle.replay.proofs.Laws.{judged-differs, judged-told}
use Rattle.replay.proofs.passes_differ.Goals as goal

pub returns-in_err-b-clause-err : goal.returns-in_err-b-clause-err
returns-in_err-b-clause-err g c =
    let one = judged-told resolve c.args.file.now c.args.at c.args.case.refusal c.args.image.now c.resolve.ensures c.in_err-b.ensures.err in search rules

pub returns-in_err-c-clause-err : goal.returns-in_err-c-clause-err
returns-in_err-c-clause-err g c =
    let one = judged-told access c.args.file.now (c.args.at + 12) c.args.case.refusal c.args.image.now c.access.ensures c.in_err-c.ensures.err in search rules

pub returns-in_err-d-clause-err : goal.returns-in_err-d-clause-err
returns-in_err-d-clause-err g c =
    let one = judged-told linear c.args.file.now (c.args.at + 24) c.args.case.refusal c.args.image.now c.linear.ensures c.in_err-d.ensures.err in search rules

pub returns-clause-ok : goal.returns-clause-ok
returns-clause-ok g c =
    let b = judged-differs resolve c.args.file.now c.args.at c.args.case.refusal c.args.image.now c.in_ok-b.ensures.ok.0 c.resolve.ensures in
    let c' = judged-differs access c.args.file.now (c.args.at + 12) c.args.case.refusal c.args.image.now c.in_ok-c.ensures.ok.0 c.access.ensures in
    let d = judged-differs linear c.args.file.now (c.args.at + 24) c.args.case.refusal c.args.image.now c.in_ok-d.ensures.ok.0 c.linear.ensures in search rules
