-- `why` meets its contract: admission, then what is answered of the image.
use mathlib.Core.Path.{sym}
use Rattle.std.proofs.lemmas.Result.{err_from_is_err_and}
use Rattle.nodes.proofs.Admission.{admitted-by}
use Rattle.why.proofs.Found.{answer-image}
use Rattle.why.proofs.why.Goals as goal

pub answer-requires : goal.answer-requires
answer-requires c = admitted-by _ _ (sym c.in_ok-head.ensures)

pub returns-in_err-head : goal.returns-in_err-head
returns-in_err-head c = let p = err_from_is_err_and c.from_residual.result c.from_residual.ensures.1 in rw (p.1, p.2) (answer-image c.args.image.now c.args.words.now c.args.place _ (sym c.in_err-head.ensures))
