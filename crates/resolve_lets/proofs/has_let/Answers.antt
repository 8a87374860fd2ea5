-- `has_let` meets its contract: no child before the one at hand is a Let, or holds one.
use native.Mathlib.Omega.{arith}
use mathlib.Core.Path.{◌∙◌}
use Rattle.nodes.proofs.Spans.{child-on}
use Rattle.nodes.proofs.Head.{head_first}
use Rattle.nodes.proofs.Iterated.{begun, at-first, ends-at, turn, ended}
use Rattle.resolve_lets.proofs.NoLet.{no-let, no-let-on}
use Rattle.resolve_lets.proofs.has_let.Goals as goal

pub loop-s-init : goal.loop-s-init
loop-s-init c =
    let H = c.requires in
    let e = c.into_iter-s-iterator.ensures.into_iter_gives in
    let b = c.from-s-items.ensures in
    let z = at-first e b.0 in
    (begun e b.0, rw z H.first.after, λ W j g h. no-let _ ((head_first H W).none j g (omega arith)))

pub loop-s-preserved : goal.loop-s-preserved
loop-s-preserved c =
    let H = c.requires in
    let i = c.loop-s.invariant in
    let t = turn {t = c.next.new.self} i.0 c.in-Some.ensures.steps in
    let l = rw (← t.is) at i.1 in
    let h = t.before in
    let d = ends-at c.args.entry c.into_iter-s-iterator.ensures.into_iter_gives c.from-s-items.ensures.1 in
    let n = (child-on H.view H.here (d H.view) l h (t.moved H.view)).0 in
    (t.still, omega arith, λ W. let e = d W in no-let-on W H.here H.positive l (omega arith) (rw (← t.is) at (i.2 W)) (λ k. let f = c.kind.ensures W ∙ k in omega arith) (t.moved W))

pub returns : goal.returns
returns c =
    λ z W j l h.
    let i = c.loop-s.invariant in
    let d = ends-at c.args.entry c.into_iter-s-iterator.ensures.into_iter_gives c.from-s-items.ensures.1 W in
    let g = ended i.0 c.in-None.ensures.steps.3 in
    i.2 W j l (omega arith)
