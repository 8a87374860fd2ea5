-- `verdicts` meets its contract: one admission, then all passes.
use mathlib.Core.Path.{sym}
use Rattle.std.proofs.lemmas.Result.{err_from_is_err_and}
use Rattle.rules.specs.Resolve.{resolve}
use Rattle.rules.specs.Access.{access}
use Rattle.rules.specs.Linear.{linear}
use Rattle.nodes.proofs.Admission.{admitted-by}
use Rattle.passes.proofs.Laws.{judged-refused}
use Rattle.typeck.proofs.verdicts.Goals as goal

pub answer_all-requires : goal.answer_all-requires
answer_all-requires c = admitted-by _ _ (sym c.in_ok-head.ensures)

pub returns-in_err-head : goal.returns-in_err-head
returns-in_err-head c =
    let p = err_from_is_err_and c.from_residual.result c.from_residual.ensures.1 in
    let s = c.args.image.now in
    let e = sym c.in_err-head.ensures in
    rw (p.1, p.2) (judged-refused resolve s _ e, judged-refused access s _ e, judged-refused linear s _ e)
