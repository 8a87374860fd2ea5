-- `verdict_of` meets its contract: admission, then the pass.
use mathlib.Core.Path.{sym}
use Rattle.std.proofs.lemmas.Result.{err_from_is_err_and}
use Rattle.passes.specs.Verdicts.{records_of}
use Rattle.nodes.proofs.Admission.{admitted-by}
use Rattle.passes.proofs.Laws.{judged-refused}
use Rattle.typeck.proofs.verdict_of.Goals as goal

pub first_of-requires : goal.first_of-requires
first_of-requires c = admitted-by _ _ (sym c.in_ok-head.ensures)

pub returns-in_err-head : goal.returns-in_err-head
returns-in_err-head c = let p = err_from_is_err_and c.from_residual.result c.from_residual.ensures.1 in rw (p.1, p.2) (judged-refused (records_of c.args.pass) _ _ (sym c.in_err-head.ensures))
