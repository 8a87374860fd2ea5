-- `entry_at` meets its contract: no item before the one at hand is an Entry that holds the place.
use native.Mathlib.Omega.{arith}
use mathlib.Core.Path.{refl}
use Rattle.nodes.proofs.Parts.{past}
use Rattle.nodes.proofs.Iterated.{begun, at-first, ends-at, turn, ended}
use Rattle.why.proofs.Held.{held_by, none-holds, none-held}
use Rattle.why.proofs.entry_at.Goals as goal

pub loop-item-init : goal.loop-item-init
loop-item-init c =
    let e = c.into_iter-item-iterator.ensures.into_iter_gives in
    let b = c.of-item-items.ensures in
    let at = at-first e b.0 in
    (begun e b.0, omega arith, λ W e E l. let z = E.after in absurd (omega arith))

pub end-requires : goal.end-requires
end-requires c = (turn {t = c.next.new.self} c.loop-item.invariant.0 c.in-Some.ensures.steps).here

pub holds-requires : goal.holds-requires
holds-requires c = (turn {t = c.next.new.self} c.loop-item.invariant.0 c.in-Some.ensures.steps).here

pub returns-then-holds : goal.returns-then-holds
returns-then-holds c =
    λ W.
    let i = c.loop-item.invariant in
    let t = turn {t = c.next.new.self} i.0 c.in-Some.ensures.steps in
    let is = t.is in
    let low = i.1 in
    let l = t.before in
    let to = ends-at 0 c.into_iter-item-iterator.ensures.into_iter_gives c.of-item-items.ensures.1 W in
    held_by W (omega arith) t.here (c.end.ensures W) (c.holds.ensures W) c.if-holds.true (omega arith)

pub loop-item-preserved : goal.loop-item-preserved
loop-item-preserved c =
    let i = c.loop-item.invariant in
    let t = turn i.0 c.in-Some.ensures.steps in
    let is = t.is in
    let low = i.1 in
    let W₀ = c.requires.0 in
    let m = t.moved W₀ in
    let g = (past W₀ t.here).0 in
    (t.still, omega arith, λ W. let on = t.moved W in let e = c.end.ensures W in rw on (none-holds W (omega arith) t.here refl (rw e at (c.holds.ensures W)) c.if-holds.false (rw (← is) at (i.2 W))))

pub returns : goal.returns
returns c =
    λ W.
    let i = c.loop-item.invariant in
    let l = ended i.0 c.in-None.ensures.steps.3 in
    let to = ends-at 0 c.into_iter-item-iterator.ensures.into_iter_gives c.of-item-items.ensures.1 W in
    none-held W (omega arith) (i.2 W)
