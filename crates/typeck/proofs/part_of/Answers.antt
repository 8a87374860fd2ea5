-- `part_of` meets its contract: admission, then the pass's list.
use mathlib.Core.Path.{sym}
use Rattle.std.proofs.lemmas.Result.{err_from_is_err_and}
use Rattle.passes.specs.Verdicts.{records_of}
use Rattle.nodes.proofs.Admission.{admitted-by}
use Rattle.typeck.proofs.Laws.{part-refused, part-listed}
use Rattle.typeck.proofs.part_of.Goals as goal

pub list_of-requires : goal.list_of-requires
list_of-requires c = admitted-by _ _ (sym c.in_ok-head.ensures)

pub returns-in_err-head : goal.returns-in_err-head
returns-in_err-head c = let p = err_from_is_err_and c.from_residual.result c.from_residual.ensures.1 in rw (p.1, p.2) (part-refused _ _ (records_of c.args.pass) _ (sym c.in_err-head.ensures))

pub returns : goal.returns
returns c = part-listed _ _ (records_of c.args.pass) (admitted-by c.args.image.now _ (sym c.in_ok-head.ensures)).admitted (c.list_of.ensures.laid tt)
