-- `list` meets its contract: the groups in order, with what was looked up for all passes.
use native.Mathlib.Omega.{arith}
use mathlib.Core.Path.{refl}
use Rattle.records.proofs.Laws.{added-as, added-by, added-join, added-most}
use Rattle.nodes.specs.Shown.{tree_of}
use Rattle.resolve.proofs.Lent.{first_of, deployer-of, in_order}
use Rattle.resolve.proofs.list.Goals as goal

pub first_groups-first-requires : goal.first_groups-first-requires
first_groups-first-requires c = (first_of c.requires, c.find_items-items.ensures)

pub group32-total-requires : goal.group32-total-requires
group32-total-requires c = let f = c.first_groups-first.ensures.few in (deployer-of c.requires, c.requires.root, omega arith)

pub last_groups-requires : goal.last_groups-requires
last_groups-requires c = let f = c.first_groups-first.ensures.few in let g = c.group32-total.ensures.few in (c.requires, omega arith, c.find_items-items.ensures.no_genesis)

pub returns : goal.returns
returns c =
    added-most (omega arith)
    (added-as (λ T. in_order (tree_of T.view))
    (added-join (added-by (λ T. first_of T) (λ T. refl) c.first_groups-first.ensures)
    (added-join (added-by (λ T. deployer-of T) (λ T. refl) c.group32-total.ensures)
    (added-by (λ T. T) (λ T. refl) c.last_groups.ensures))))
