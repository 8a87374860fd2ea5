-- `list` meets its contract: admission, room for all records, then the records.
use native.Mathlib.Omega.{arith}
use mathlib.Core.Path.{sym}
use Rattle.std.proofs.lemmas.Result.{err_from_is_err_and}
use Rattle.nodes.proofs.Admission.{admitted-by}
use Rattle.typeck.proofs.Laws.{all-refused, all_short, all_listed}
use Rattle.typeck.proofs.list.Goals as goal

pub count_all-requires : goal.count_all-requires
count_all-requires c = admitted-by _ _ (sym c.in_ok-head.ensures)

pub fill-count-requires : goal.fill-count-requires
fill-count-requires c = let n = c.count_all.ensures.0 in (admitted-by _ _ (sym c.in_ok-head.ensures), omega arith)

pub returns-in_err-head : goal.returns-in_err-head
returns-in_err-head c = let p = err_from_is_err_and c.from_residual.result c.from_residual.ensures.1 in rw (p.1, p.2) (all-refused c.args.image.now c.args.words.now _ (sym c.in_err-head.ensures))

pub returns-then-words-count_all : goal.returns-then-words-count_all
returns-then-words-count_all c =
    let n = c.count_all.ensures.0 in
    let h = c.if-words-count_all.true in
    all_short c.args.image.now c.args.words.now (admitted-by _ _ (sym c.in_ok-head.ensures)).admitted (omega arith)

pub returns : goal.returns
returns c =
    let n = c.count_all.ensures.0 in
    let h = c.if-words-count_all.false in
    all_listed c.args.image.now c.args.words.now (admitted-by _ _ (sym c.in_ok-head.ensures)).admitted (omega arith) c.fill-count.ensures
