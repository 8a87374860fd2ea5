-- `list` meets its contract: the tables are made, then 50 and 51 follow.
use native.Mathlib.Omega.{arith}
use mathlib.Core.Path.{refl}
use Rattle.rules.specs.Access.{access}
use Rattle.records.proofs.Laws.{added-by, added-join}
use Rattle.access.proofs.Lent.{state-of, tables-of}
use Rattle.access.proofs.list.Goals as goal

pub group51-requires : goal.group51-requires
group51-requires c = let f = c.group50-count.ensures.few in (tables-of c.requires c.mark_writers.ensures, omega arith)

pub returns : goal.returns
unfolding access
returns c = added-join (added-by state-of (λ _. refl) c.group50-count.ensures) (added-by (λ T. tables-of T c.mark_writers.ensures) (λ _. refl) c.group51.ensures)
