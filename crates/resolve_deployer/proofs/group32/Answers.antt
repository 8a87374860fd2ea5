-- `group32` meets its contract: nothing where no name is `deployer`, else the items with its mark.
use mathlib.Core.Path.{refl, subst}
use Rattle.records.proofs.Laws.{added-by, added-nothing}
use Rattle.names.specs.Found.{Numbered}
use Rattle.names.proofs.Marked.{number_small}
use Rattle.resolve_deployer.proofs.Deployer.{deployed-of, group32-none}
use Rattle.resolve_deployer.proofs.group32.Goals as goal

pub returns-then-number-eq0 : goal.returns-then-number-eq0
returns-then-number-eq0 c = added-nothing (λ T. group32-none T.view c.requires.1 (subst (Numbered _ _) c.if-number-eq0.true T.is))

pub mark_number-requires : goal.mark_number-requires
mark_number-requires c = let T = c.requires.0 in number_small T.view.shown.admitted T.is

pub items32-requires : goal.items32-requires
items32-requires c = (deployed-of c.requires.0 c.mark_number.ensures, c.requires.1, c.requires.2)

pub returns : goal.returns
returns c = added-by (λ T. deployed-of T c.mark_number.ensures) (λ _. refl) c.items32.ensures
