-- `rises` meets its contract: behind what is alike, the next four bytes of both decide, or what is left.
use mathlib.Core.Path.{◌∙◌}
use Rattle.name_table.proofs.Fours.{by-fours, by-rests}
use Rattle.name_table.proofs.rises.Goals as goal

pub returns-then-k-u : goal.returns-then-k-u
returns-then-k-u c =
    let a = c.args in
    by-fours a.t.now a.u.now c.alike-k.result c.alike-k.ensures (λ i. (c.shared_slice_known-1.given i).fits) (λ i. (c.shared_slice_known-2-1.given i).fits) c.if-k-t.true c.if-k-u.true c.four_at.result c.four_at-then-k-u.result c.four_at.ensures c.four_at-then-k-u.ensures

pub returns : goal.returns
returns c =
    let a = c.args in
    c.below.ensures ∙ by-rests a.t.now a.u.now c.alike-k.result c.alike-k.ensures
