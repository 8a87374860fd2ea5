-- `record_line` meets its contract: the code, the place, then the other numbers.
use native.Mathlib.Omega.{arith}
use Rattle.lines.proofs.Laws.{wrote-join, wrote_as}
use Rattle.render.proofs.Laws.{record_is, record-few}
use Rattle.render.proofs.record_line.Goals as goal

pub of_place-span-requires : goal.of_place-span-requires
of_place-span-requires c = c.requires.0

pub decimal-j-requires : goal.decimal-j-requires
decimal-j-requires c = let p = c.requires.1 in omega arith

pub number-k-requires : goal.number-k-requires
number-k-requires c = let b = c.decimal-j.ensures.1 in let p = c.requires.1 in omega arith

pub rest_four-requires : goal.rest_four-requires
rest_four-requires c = let b = c.decimal-j.ensures.1 in let d = c.number-k.ensures.1 in let p = c.requires.1 in omega arith

pub returns : goal.returns
returns c =
    let w = wrote-join c.decimal-j.ensures.0 (wrote-join c.number-k.ensures.0 c.rest_four.ensures.0) in
    let a = c.args in
    let p = c.requires in
    let s = c.of_place-span.ensures in
    let f = record-few a.code a.place a.related a.entry _ _ p.2 p.3 p.4 p.5 s.2 s.3 in
    let n = w.count in
    (wrote_as (record_is a.image.now a.code a.place a.related a.entry _ _ s.0 s.1) w, omega arith)
