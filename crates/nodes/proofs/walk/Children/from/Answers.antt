-- `Children::from` keeps what a walk asks: all below node a stands in the part.
use Rattle.nodes.proofs.Chains.{chain-of}
use Rattle.nodes.proofs.walk.Children.from.Goals as goal

pub invariant_of-result : goal.invariant_of-result
invariant_of-result c = let P = c.requires in record { chain = chain-of P.0 P.1 P.2 (c.end-end.ensures P.0) }
