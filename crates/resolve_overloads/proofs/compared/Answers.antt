-- `compared` meets its contract: the tables are empty.
use mathlib.Core.Path.{refl}
use Rattle.records.proofs.Laws.{added-by}
use Rattle.resolve_overloads.proofs.Chain.{chains-none}
use Rattle.resolve_overloads.proofs.compared.Goals as goal

pub entries-requires : goal.entries-requires
entries-requires c = (record { view = c.requires.0; chains = chains-none c.requires.0.image }, c.requires.1, c.requires.2)

pub returns : goal.returns
returns c = added-by (λ W. record { view = W; chains = chains-none W.image }) (λ W. refl) c.entries.ensures
