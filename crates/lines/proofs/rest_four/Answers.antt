-- `rest_four` meets its contract: four numbers, then the newline.
use native.Mathlib.Omega.{arith}
use Rattle.lines.proofs.Laws.{wrote-join, wrote_as, rest-four}
use Rattle.lines.proofs.rest_four.Goals as goal

pub number-j-requires : goal.number-j-requires
number-j-requires c = let a = c.number-i.ensures.1 in omega arith

pub number-k-requires : goal.number-k-requires
number-k-requires c = let a = c.number-i.ensures.1 in let b = c.number-j.ensures.1 in omega arith

pub rest_one-requires : goal.rest_one-requires
rest_one-requires c = let a = c.number-i.ensures.1 in let b = c.number-j.ensures.1 in let d = c.number-k.ensures.1 in omega arith

pub returns : goal.returns
returns c =
    let n = c.args in
    let w = c.number-i.ensures in
    let x = c.number-j.ensures in
    let y = c.number-k.ensures in
    let z = c.rest_one.ensures in
    let a = w.1 in
    let b = x.1 in
    let d = y.1 in
    let e = z.1 in
    (wrote_as (rest-four n.a n.b n.c n.d) (wrote-join w.0 (wrote-join x.0 (wrote-join y.0 z.0))), omega arith)
