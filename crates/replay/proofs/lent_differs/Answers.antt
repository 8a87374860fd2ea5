-- `lent_differs` meets its contract: the lent form has the verdict of the pass.
use Rattle.std.proofs.Common.{◌+◌, refl, le_refl}
use Rattle.rules.specs.Linear.{linear}
use Rattle.replay.proofs.Laws.{counts-as, fails-as, judged-differs}
use Rattle.replay.proofs.lent_differs.Goals as goal

pub returns-clause-ok : goal.returns-clause-ok
returns-clause-ok g c =
    counts-as c.pass_differs.result (judged-differs linear c.args.file.now (c.args.at + 24) c.args.case.refusal c.args.image.now refl c.linear_here-verdict.ensures) (le_refl 1) c.pass_differs.ensures.ok

pub returns-clause-err : goal.returns-clause-err
returns-clause-err g c =
    fails-as c.pass_differs.result (judged-differs linear c.args.file.now (c.args.at + 24) c.args.case.refusal c.args.image.now refl c.linear_here-verdict.ensures) c.pass_differs.ensures.err
