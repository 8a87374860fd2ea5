-- `first_groups` meets its contract: one group after another.
use native.Mathlib.Omega.{arith}
use Prim.Native.Nat.{◌≤◌, ◌^◌}
use mathlib.Core.Path.{refl}
use Rattle.records.proofs.Laws.{added-most, added-by, added-join}
use Rattle.resolve.proofs.Lent.{by-mint, by_name}
use Rattle.resolve.proofs.first_groups.Goals as goal

pub group20-fields-requires : goal.group20-fields-requires
group20-fields-requires c = let P = c.requires in (P.0.view, P.0.root, omega arith)

pub group21-events-requires : goal.group21-events-requires
group21-events-requires c = let P = c.requires in let f = c.group20-fields.ensures.few in (P.0.view, P.0.root, omega arith, P.1.no_event)

pub group22-mints-requires : goal.group22-mints-requires
group22-mints-requires c = let P = c.requires in let f = c.group20-fields.ensures.few in let g = c.group21-events.ensures.few in (by-mint P.0, P.0.root, omega arith)

pub group23-overloads-requires : goal.group23-overloads-requires
group23-overloads-requires c =
    let few22 : c.group22-mints.result ≤ 2 ^ 23 = let f = c.group20-fields.ensures.few in let g = c.group21-events.ensures.few in let h = c.group22-mints.ensures.few in omega arith in
    let P = c.requires in let f = few22 in (P.0.view, P.0.root, omega arith)

pub group24-names-requires : goal.group24-names-requires
group24-names-requires c =
    let few22 : c.group22-mints.result ≤ 2 ^ 23 = let f = c.group20-fields.ensures.few in let g = c.group21-events.ensures.few in let h = c.group22-mints.ensures.few in omega arith in
    let P = c.requires in let f = few22 in let g = c.group23-overloads.ensures.few in (by_name P.0, P.0.root, omega arith)

pub group30-requires : goal.group30-requires
group30-requires c =
    let few22 : c.group22-mints.result ≤ 2 ^ 23 = let f = c.group20-fields.ensures.few in let g = c.group21-events.ensures.few in let h = c.group22-mints.ensures.few in omega arith in
    let P = c.requires in let f = few22 in let g = c.group23-overloads.ensures.few in let h = c.group24-names.ensures.few in (P.0.view, P.0.root, omega arith, P.1)

pub returns : goal.returns
returns c =
    added-most (omega arith)
    (added-join (added-by (λ T. T.view) (λ T. refl) c.group20-fields.ensures)
    (added-join (added-by (λ T. T.view) (λ T. refl) c.group21-events.ensures)
    (added-join (added-by (λ T. by-mint T) (λ T. refl) c.group22-mints.ensures)
    (added-join (added-by (λ T. T.view) (λ T. refl) c.group23-overloads.ensures)
    (added-join (added-by (λ T. by_name T) (λ T. refl) c.group24-names.ensures)
    (added-by (λ T. T.view) (λ T. refl) c.group30.ensures))))))
