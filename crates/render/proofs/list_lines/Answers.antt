-- `list_lines` meets its contract: the list's answer, then its records.
use native.Mathlib.Omega.{arith}
use Prim.Native.Nat.{ℕ}
use mathlib.Core.Path.{sym, ap, ◌∙◌}
use lib.ListN.{replicate, length-replicate}
use Rattle.rules.specs.Spelling.{bytes}
use Rattle.typeck.specs.Face.{listing_of}
use Rattle.lines.proofs.Laws.{wrote-join, wrote_as}
use Rattle.render.proofs.Laws.{line-few, lines-refused, lines-listed, records-fit}
use Rattle.render.proofs.list_lines.Goals as goal

pub rest_one-requires : goal.rest_one-requires
rest_one-requires c = let w = c.text-k.ensures.count in let p = c.requires.1 in omega arith

pub rest_one-k-requires : goal.rest_one-k-requires
rest_one-k-requires c = let w = c.text-j.ensures.count in let p = c.requires.1 in omega arith

pub record_lines-requires : goal.record_lines-requires
record_lines-requires c =
    let p = c.requires in
    let L = c.list.ensures in
    let f = records-fit c.args.image.now (replicate 32768 0) _ _ p.0.admitted (sym (ap listing_of c.in-Ok.is) ∙ L.0.numbers) L.1 in
    let a = f.0 in
    let b = f.1 in
    let l = length-replicate {A = ℕ} 32768 0 in
    let w = c.text-j.ensures.count in
    let r = c.rest_one-k.ensures.1 in
    let q = p.1 in
    (p.0, omega arith, omega arith, omega arith)

pub returns-in-Err : goal.returns-in-Err
unfolding bytes
returns-in-Err c =
    line-few 437000 (omega arith)
    (lines-refused c.args.image.now (replicate 32768 0) _ _ 32768 (length-replicate {A = ℕ} 32768 0) c.in-Err.is c.list.ensures.0)
    c.text-k.ensures (rw c.number.ensures at c.rest_one.ensures)

pub returns-in-Ok : goal.returns-in-Ok
unfolding bytes
returns-in-Ok c =
    let s = c.args.image.now in
    let e = c.requires.0.admitted in
    let L = c.list.ensures in
    let a = sym (ap listing_of c.in-Ok.is) ∙ L.0.numbers in
    let f = records-fit s (replicate 32768 0) _ _ e a L.1 in
    let x = f.0 in
    let y = f.1 in
    let l = length-replicate {A = ℕ} 32768 0 in
    let w = c.text-j.ensures in
    let r = c.rest_one-k.ensures in
    let t = c.record_lines.ensures in
    let n = w.count in
    let b = r.1 in
    let d = t.1 in
    (wrote_as (lines-listed s (replicate 32768 0) _ _ e a L.1 32768 l) (wrote-join w (wrote-join r.0 t.0)), omega arith)
