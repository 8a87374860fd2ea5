-- `render` meets its contract: admission, the lines of the passes, the lines of the list.
use native.Mathlib.Omega.{arith}
use mathlib.Core.Path.{sym, ◌∙◌}
use Rattle.rules.specs.Spelling.{bytes}
use Rattle.nodes.proofs.Admission.{admitted-by}
use Rattle.lines.proofs.Laws.{wrote-join, wrote_as}
use Rattle.render.proofs.Laws.{line-few, report-refused, report-admitted}
use Rattle.render.proofs.render.Goals as goal

pub rest_one-requires : goal.rest_one-requires
rest_one-requires c = let w = c.text-k.ensures.count in omega arith

pub pass_line-j-requires : goal.pass_line-j-requires
pass_line-j-requires c = let a = c.pass_line-i.ensures.1 in (omega arith, omega arith)

pub pass_line-k-requires : goal.pass_line-k-requires
pass_line-k-requires c =
    let a = c.pass_line-i.ensures.1 in
    let b = c.pass_line-j.ensures.1 in
    (omega arith, omega arith)

pub list_lines-requires : goal.list_lines-requires
list_lines-requires c =
    let a = c.pass_line-i.ensures.1 in
    let b = c.pass_line-j.ensures.1 in
    let d = c.pass_line-k.ensures.1 in
    (admitted-by _ _ (sym c.admit.ensures ∙ c.in-Ok.is), omega arith)

pub returns-in-Err : goal.returns-in-Err
unfolding bytes
returns-in-Err c = let t = line-few 450000 (omega arith) (report-refused c.args.image.now _ (sym c.admit.ensures ∙ c.in-Err.is)) c.text-k.ensures (rw c.number.ensures at c.rest_one.ensures) in record { printed = t.0; upper_bound = t.1 }

pub returns-in-Ok : goal.returns-in-Ok
unfolding bytes
returns-in-Ok c =
    let s = c.args.image.now in
    let e = (admitted-by s _ (sym c.admit.ensures ∙ c.in-Ok.is)).admitted in
    let v = c.answer_all-answers.ensures in
    let i = c.pass_line-i.ensures in
    let j = c.pass_line-j.ensures in
    let k = c.pass_line-k.ensures in
    let l = c.list_lines.ensures in
    let w = i.1 in
    let x = j.1 in
    let y = k.1 in
    let z = l.1 in
    record { printed = wrote_as (report-admitted s e v.0.numbers v.1.numbers v.2.numbers) (wrote-join i.0 (wrote-join j.0 (wrote-join k.0 l.0))); upper_bound = omega arith }
