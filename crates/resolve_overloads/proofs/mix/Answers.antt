-- `mix` meets its contract: the products fit, and the sum is what the definition says.
use borrow.Author.Rules.{rules}
use Rattle.resolve_overloads.specs.Keys.{mix}
use Rattle.resolve_overloads.proofs.mix.Goals as goal

pub returns : goal.returns
unfolding mix
returns c = search rules
