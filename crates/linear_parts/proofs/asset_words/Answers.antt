-- `asset_words` meets its contract: the numbers are those of the words.
use Rattle.linear_parts.proofs.asset_words.Goals as goal

pub returns : goal.returns
returns c = λ s w. (w.asset_is, w.methods_are.split_is, w.builtins_are.mint_is)
