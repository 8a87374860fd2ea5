-- `Children::until` keeps what a walk asks: no node before `to` reaches past it.
use Rattle.nodes.proofs.Chains.{chain-until}
use Rattle.nodes.proofs.walk.Children.until.Goals as goal

pub invariant_of-result : goal.invariant_of-result
invariant_of-result c = record { chain = chain-until c.requires.1 }
