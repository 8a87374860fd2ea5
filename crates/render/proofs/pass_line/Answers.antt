-- `pass_line` meets its contract: the name, then the verdict's numbers.
use native.Mathlib.Omega.{arith}
use Rattle.render.proofs.Laws.{pass-is}
use Rattle.render.proofs.pass_line.Goals as goal

pub rest_four-requires : goal.rest_four-requires
rest_four-requires c = let w = c.text-k.ensures.count in let p = c.requires.1 in omega arith

pub rest_four-requires-in-Some : goal.rest_four-requires-in-Some
rest_four-requires-in-Some c = let w = c.text-k.ensures.count in let p = c.requires.1 in omega arith

pub returns-in-None : goal.returns-in-None
returns-in-None c = pass-is c.args.name.now c.in-None.is c.requires.1 c.text-k.ensures c.rest_four.ensures

pub returns-in-Some : goal.returns-in-Some
returns-in-Some c = pass-is c.args.name.now c.in-Some.is c.requires.1 c.text-k.ensures (rw (c.from.ensures, c.from-in-Some.ensures) at c.rest_four-in-Some.ensures)
