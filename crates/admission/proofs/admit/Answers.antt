-- `admit` meets its contract: the header's refusal, or that of the three parts at the counts that the header gives.
use native.Mathlib.Omega.{arith}
use mathlib.Core.Path.{refl}
use lib.ListN.{length-take, length-drop}
use Rattle.std.proofs.lemmas.Result.{err_from_is_err_and}
use Rattle.admission.proofs.Read.{bounds, admits, refuses, refuses-early}
use Rattle.admission.proofs.admit.Goals as goal

pub returns-in_err-image : goal.returns-in_err-image
returns-in_err-image c = let p = err_from_is_err_and c.from_residual.result c.from_residual.ensures.1 in rw (p.1, p.2) (refuses-early c.args.s.now c.in_err-image.ensures)

pub names_at-a-requires : goal.names_at-a-requires
names_at-a-requires c = let h = bounds c.args.s.now c.in_ok-image.ensures in omega arith

pub text_at-b-requires : goal.text_at-b-requires
text_at-b-requires c = let h = bounds c.args.s.now c.in_ok-image.ensures in (omega arith, omega arith)

pub slice_bounds-judge-end : goal.slice_bounds-judge-end
slice_bounds-judge-end c = let h = bounds c.args.s.now c.in_ok-image.ensures in omega arith

pub slice_bounds-judge-end-2 : goal.slice_bounds-judge-end-2
slice_bounds-judge-end-2 c = let h = bounds c.args.s.now c.in_ok-image.ensures in omega arith

pub judge-requires : goal.judge-requires
judge-requires c = let h = bounds c.args.s.now c.in_ok-image.ensures in (omega arith, omega arith, simp (length-take, length-drop) (omega arith), simp (length-take, length-drop) (omega arith), omega arith)

pub returns-in_err-judge : goal.returns-in_err-judge
returns-in_err-judge c =
    let p = err_from_is_err_and c.from_residual-in_err-judge.result c.from_residual-in_err-judge.ensures.1 in
    rw (p.1, p.2) (refuses c.args.s.now c.in_ok-image.ensures c.names_at-a.ensures c.text_at-b.ensures c.in_err-judge.ensures _ refl)

pub returns : goal.returns
returns c = admits c.args.s.now c.in_ok-image.ensures c.names_at-a.ensures c.text_at-b.ensures c.in_ok-judge.ensures refl
