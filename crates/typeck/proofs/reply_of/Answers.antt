-- `reply_of` meets its contract: admission, then the question.
use mathlib.Core.Path.{sym}
use Rattle.std.proofs.lemmas.Result.{err_from_is_err_and}
use Rattle.model.specs.Questions.{question_of}
use Rattle.nodes.proofs.Admission.{admitted-by}
use Rattle.typeck.proofs.Laws.{replied-refused, replied-by}
use Rattle.typeck.proofs.reply_of.Goals as goal

pub holds-yes-requires : goal.holds-yes-requires
holds-yes-requires c = admitted-by _ _ (sym c.in_ok-head.ensures)

pub returns-in_err-head : goal.returns-in_err-head
returns-in_err-head c = let p = err_from_is_err_and c.from_residual.result c.from_residual.ensures.1 in rw (p.1, p.2) (replied-refused (question_of c.args.question) _ _ _ (sym c.in_err-head.ensures))

pub returns : goal.returns
returns c = replied-by (question_of c.args.question) _ _ (admitted-by _ _ (sym c.in_ok-head.ensures)).admitted c.holds-yes.ensures
