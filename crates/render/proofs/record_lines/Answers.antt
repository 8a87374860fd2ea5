-- `record_lines` meets its contract: record by record.
use borrow.Author.Rules.{rules}
use native.Mathlib.Omega.{arith}
use mathlib.Core.Path.{◌≡◌, sym, ap}
use Rattle.rules.specs.Sweep.{run}
use Rattle.records.proofs.Sweep.{run_none}
use Rattle.lines.proofs.Laws.{wrote_none, wrote-join, wrote_as, wrote-long}
use Rattle.render.specs.Report.{line_at}
use Rattle.render.proofs.Laws.{lines_next}
use Rattle.render.proofs.record_lines.Goals as goal

pub loop-i-init : goal.loop-i-init
loop-i-init c = (omega arith, omega arith, wrote_as (sym (run_none _ _)) (wrote_none _ _))

pub record_line-k-requires : goal.record_line-k-requires
record_line-k-requires c =
    let p = c.requires in
    let a = c.loop-i.invariant.1 in
    let b = c.loop-i-test.true in
    let d = p.1 in
    let e = p.2 in
    let f = p.3 in
    (p.0, omega arith, search rules, search rules, search rules, search rules)

pub loop-i-preserved : goal.loop-i-preserved
loop-i-preserved c =
    let l = c.record_line-k.ensures in
    let a = c.args in
    let v = c.loop-i.invariant in
    let b = v.1 in
    let d = l.1 in
    let next = lines_next a.image.now a.words.now c.loop-i.i c.from-code.ensures c.from-place.ensures c.from-related.ensures c.from-entry.ensures in
    (search rules, omega arith, wrote_as next (wrote-join v.2 l.0))

pub shape_of-out : goal.shape_of-out
shape_of-out c = wrote-long c.loop-i.invariant.2

pub returns : goal.returns
returns c =
    let a = c.args in
    let v = c.loop-i.invariant in
    let h = c.loop-i-test.false in
    let x = v.0 in
    let y = v.1 in
    let e : c.loop-i.i ≡ a.count = omega arith in
    (wrote_as (ap (run (line_at a.image.now a.words.now) 0) e) v.2, omega arith)
