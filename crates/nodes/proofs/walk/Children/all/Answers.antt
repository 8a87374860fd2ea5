-- `Children::all` keeps what a walk asks: a part holds the whole of each node in it.
use mathlib.Core.Path.{refl}
use native.Mathlib.Omega.{arith}
use Rattle.nodes.proofs.Spans.{span-whole, upto_is}
use Rattle.nodes.proofs.Chains.{chain-all}
use Rattle.nodes.proofs.walk.Children.all.Goals as goal

pub overflow_add-end : goal.overflow_add-end
overflow_add-end c = let W = c.requires in let u = (span-whole W (upto_is W)).under in omega arith

pub invariant_of-result : goal.invariant_of-result
invariant_of-result c = record { chain = chain-all c.requires }

pub returns : goal.returns
returns c = (record { nodes = refl; base = refl; first = refl }, λ W. upto_is W)
