-- `assigns` meets its contract: a walk from statement to statement of the Genesis.
use mathlib.Core.Path.{refl}
use Rattle.rules.specs.Sweep.{has}
use Rattle.records.proofs.Laws.{asked, held_all}
use Rattle.nodes.proofs.Shapes.{all_in}
use Rattle.nodes.specs.State.{State}
use Rattle.nodes.proofs.Iterated.{begun, at-first, ends-at, turn, ended}
use Rattle.nodes.proofs.Steps.{parts-on, below-starts, below-done}
use Rattle.nodes.specs.Entries.{HeldNode}
use Rattle.resolve_clauses.proofs.Heads.{stands-in}
use Rattle.resolve_clauses.proofs.assigns.Goals as goal

pub loop-statement-init : goal.loop-statement-init
loop-statement-init c =
    let e = c.into_iter-statement-iterator.ensures.into_iter_gives in
    let b = c.of-statement-items.ensures in
    (begun e b.0, rw (at-first e b.0) (below-starts c.args.genesis (held_all 0 c.requires.0) c.requires.1 (ends-at c.args.genesis e b.1)))

pub loop-statement-preserved : goal.loop-statement-preserved
unfolding all_in has
loop-statement-preserved c =
    let P = c.requires in
    let g = c.args.genesis in
    let H = HeldNode c.args.nodes.now g 0 (State c.args.nodes.now 0 c.args.state.now) in
    let i = c.loop-statement.invariant in
    let t = turn i.0 c.in-Some.ensures.steps in
    let d = ends-at g c.into_iter-statement-iterator.ensures.into_iter_gives c.of-statement-items.ensures.1 in
    let w = rw (← t.is) at i.1 in
    let a = asked (λ (h : H). h.seen) 33 c.in-Some.statement (λ h. let W = h.seen.view in stands-in W h P.1 w.sweep.low t.before (d W)) _ c.rule33.ensures c.emit_if-total.ensures in
    (t.still, parts-on g refl (held_all 0 P.0) P.1 P.2 d w t.before t.moved a)

pub returns : goal.returns
returns c =
    let i = c.loop-statement.invariant in
    below-done c.args.genesis i.1 (ended i.0 c.in-None.ensures.steps.3) (ends-at c.args.genesis c.into_iter-statement-iterator.ensures.into_iter_gives c.of-statement-items.ensures.1)
