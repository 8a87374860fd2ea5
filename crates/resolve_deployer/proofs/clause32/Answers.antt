-- `clause32` meets its contract: a clause of another kind is left out.
use mathlib.Core.Path.{sym}
use native.Mathlib.Omega.{arith}
use Rattle.records.proofs.Laws.{added-as, added-nothing}
use Rattle.records.proofs.Sweep.{keep-none, keep_one}
use Rattle.nodes.specs.Shown.{tree_of}
use Rattle.resolve_deployer.proofs.Deployer.{expressions-in, expressions-out}
use Rattle.resolve_deployer.specs.Deployed.{ident_rules}
use Rattle.resolve_deployer.proofs.clause32.Goals as goal

pub returns-in-19-to-21 : goal.returns-in-19-to-21
returns-in-19-to-21 c =
    added-as (λ h. let e = c.kind.ensures h.seen.view in sym (keep_one (ident_rules (tree_of h.seen.view)) _ (expressions-in _ (omega arith) (omega arith)))) c.idents32.ensures

pub returns-in_default : goal.returns-in_default
returns-in_default c = added-nothing (λ h. let e = c.kind.ensures h.seen.view in keep-none _ _ (expressions-out _ (λ j a b d. omega arith)))

pub returns-in_default-2 : goal.returns-in_default-2
returns-in_default-2 c = added-nothing (λ h. let e = c.kind.ensures h.seen.view in keep-none _ _ (expressions-out _ (λ j a b d. omega arith)))
