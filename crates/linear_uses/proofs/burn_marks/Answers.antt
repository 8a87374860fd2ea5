-- `burn_marks` meets its contract: a walk from child to child over the head of the entry.
use native.Mathlib.Omega.{arith}
use mathlib.Core.Path.{refl, ap, ◌∙◌}
use Rattle.rules.specs.Sweep.{has}
use Rattle.nodes.specs.declared.walk.Children.{Children}
use Rattle.nodes.specs.First.{Until}
use Rattle.nodes.proofs.Until.{until-span, until-on, until-skips}
use Rattle.nodes.proofs.Head.{until-head}
use Rattle.nodes.proofs.Iterated.{begun, at-first, turn, ended}
use Rattle.linear_uses.proofs.Burnt.{burnt-starts, burnt-spare, burnt-on, burnt-done}
use Rattle.linear_uses.proofs.burn_marks.Goals as goal

pub loop-part-init : goal.loop-part-init
unfolding has
loop-part-init c =
    let e = c.into_iter-part-iterator.ensures.into_iter_gives in
    let b = c.heads-part-items.ensures in
    let o = begun e b.0 in
    let S = until-span (until-head c.requires.1 10 refl) in
    (record { nodes = o.nodes; base = o.base; last = ap (λ (s : Children). s.rest.end) e ∙ b.1 }, S, rw (at-first e b.0) (burnt-starts S.order c.requires.2))

pub burn_mark-requires : goal.burn_mark-requires
burn_mark-requires c =
    let i = c.loop-part.invariant in
    let t = turn {t = c.next.new.self} i.0 c.in-Some.ensures.steps in
    (c.requires.0, t.here, burnt-spare i.2 i.1.under c.requires.0)

pub loop-part-preserved : goal.loop-part-preserved
unfolding has
loop-part-preserved c =
    let i = c.loop-part.invariant in
    let t = turn i.0 c.in-Some.ensures.steps in
    let B = rw (← t.is) at i.2 in
    let l = B.low in
    let N : Until c.args.nodes.now 0 c.args.entry c.args.to 10 = until-head c.requires.1 10 refl in
    let m = until-on N (omega arith) t.before t.moved in
    (t.still, i.1, burnt-on B m.0 m.1 (λ T. until-skips N (omega arith) t.before t.moved refl T.on_rows.view) c.burn_mark.ensures)

pub returns : goal.returns
unfolding has
returns c = let i = c.loop-part.invariant in burnt-done i.2 (ended i.0 c.in-None.ensures.steps.3) (until-head c.requires.1 10 refl)
