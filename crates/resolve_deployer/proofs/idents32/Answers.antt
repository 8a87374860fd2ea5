-- `idents32` meets its contract: the table marks `deployer` alone.
use mathlib.Core.Logic.{inr}
use mathlib.Core.Path.{refl}
use Rattle.records.proofs.Laws.{added-by, held-as}
use Rattle.resolve_deployer.proofs.Deployer.{table_of}
use Rattle.rules.specs.Resolve.{rule32}
use Rattle.resolve_deployer.proofs.idents32.Goals as goal

pub within-requires : goal.within-requires
within-requires c = (table_of c.requires.0, inr refl, c.requires.1, c.requires.2, c.requires.3)

pub returns : goal.returns
unfolding rule32
returns c = added-by (held-as (λ T. table_of T)) (λ h. refl) c.within.ensures
