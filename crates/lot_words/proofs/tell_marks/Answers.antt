-- `tell_marks` meets its contract: a walk from child to child over the head of the entry.
use native.Mathlib.Omega.{arith}
use Prim.Native.Nat.{◌-◌}
use mathlib.Core.Path.{refl, ap, ◌∙◌}
use Rattle.rules.specs.Sweep.{has}
use Rattle.records.proofs.Sweep.{sweeps-start, sweeps-on, sweeps-done, keep-none}
use Rattle.nodes.specs.declared.walk.Children.{Children}
use Rattle.nodes.specs.First.{Until}
use Rattle.nodes.proofs.Until.{until-span, until-on, until-skips}
use Rattle.nodes.proofs.Head.{until-head}
use Rattle.nodes.proofs.Iterated.{begun, at-first, turn, ended}
use Rattle.lot_words.proofs.Words.{wrote_as, wrote-follows, wrote-long, each_none}
use Rattle.lot_words.proofs.Marks.{marks-told}
use Rattle.lot_words.proofs.tell_marks.Goals as goal

pub loop-part-init : goal.loop-part-init
unfolding has
loop-part-init c =
    let e = c.into_iter-part-iterator.ensures.into_iter_gives in
    let b = c.heads-part-items.ensures in
    let o = begun e b.0 in
    let S = until-span (until-head c.requires.1 10 refl) in
    (record { nodes = o.nodes; base = o.base; last = ap (λ (s : Children). s.rest.end) e ∙ b.1 }, S, rw (at-first e b.0) (sweeps-start (λ _. wrote-follows) S.order))

pub tell_mark-total-requires : goal.tell_mark-total-requires
tell_mark-total-requires c =
    let i = c.loop-part.invariant in
    let t = turn {t = c.next.new.self} i.0 c.in-Some.ensures.steps in
    let f = i.2.few in
    let h = i.2.high in
    let u = i.1.under in
    (c.requires.0, t.here, c.requires.2, omega arith)

pub loop-part-preserved : goal.loop-part-preserved
unfolding has
loop-part-preserved c =
    let i = c.loop-part.invariant in
    let t = turn i.0 c.in-Some.ensures.steps in
    let S = rw (← t.is) at i.2 in
    let l = S.low in
    let N : Until c.args.nodes.now 0 c.args.entry c.args.to 10 = until-head c.requires.1 10 refl in
    let m = until-on N (omega arith) t.before t.moved in
    let q = c.tell_mark-total.ensures in
    (t.still, i.1, sweeps-on (λ _. wrote-follows) S q.1 q.0 m.0 m.1 (λ T j a b. each_none _ (keep-none _ j (until-skips N (omega arith) t.before t.moved refl T.clausal.view j a b))))

pub shape_of-out : goal.shape_of-out
shape_of-out c = wrote-long (c.loop-part.invariant.2.laid c.requires.0)

pub returns : goal.returns
unfolding has
returns c =
    let i = c.loop-part.invariant in
    let u = i.1.under in
    let D = sweeps-done (λ _. wrote-follows) i.2 (ended i.0 c.in-None.ensures.steps.3) in
    let f = D.0 in
    (λ T. wrote_as (marks-told (until-head c.requires.1 10 refl) T (c.args.row - 1)) (D.1 T), omega arith)
