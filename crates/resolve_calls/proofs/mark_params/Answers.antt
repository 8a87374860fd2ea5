-- `mark_params` meets its contract: a walk over the head of the entry is one over all of it.
use native.Mathlib.Omega.{arith}
use mathlib.Core.Path.{refl, sym, ap, ◌∙◌}
use Rattle.rules.specs.Sweep.{has}
use Rattle.nodes.specs.Marks.{marking}
use Rattle.nodes.proofs.Names.{marks-as}
use Rattle.nodes.proofs.Marking.{marking-none}
use Rattle.nodes.proofs.Walking.{marks-done}
use Rattle.nodes.proofs.Until.{one_end, until-starts, until-walks, until-done}
use Rattle.nodes.proofs.Head.{until-head}
use Rattle.nodes.proofs.Iterated.{begun-to, at-first, turn, ended}
use Rattle.resolve_calls.proofs.Types.{no-param}
use Rattle.resolve_calls.proofs.mark_params.Goals as goal

pub returns-then-address-lt1 : goal.returns-then-address-lt1
returns-then-address-lt1 c = λ T P M. marks-as (λ w. sym (ap (marking c.args.on (P w)) (no-param T c.if-address-lt1.true c.requires.1.here w) ∙ marking-none c.args.on (P w))) M

pub loop-part-init : goal.loop-part-init
unfolding has
loop-part-init c =
    let e = c.into_iter-part-iterator.ensures.into_iter_gives in
    let b = c.heads-part-items.ensures in
    (begun-to e b.0 b.1, rw (at-first e b.0) (until-starts (until-head c.requires.1 10 refl) (λ v i. marking-none _ v)))

pub loop-part-preserved : goal.loop-part-preserved
unfolding has
loop-part-preserved c =
    let i = c.loop-part.invariant in
    let t = turn i.0 c.in-Some.ensures.steps in
    (t.still, until-walks (until-head c.requires.1 10 refl) (rw (← t.is) at i.1) refl t.before t.moved c.mark_param.ensures)

pub returns : goal.returns
unfolding has
returns c =
    let i = c.loop-part.invariant in
    let N = until-head c.requires.1 10 refl in
    marks-done (one_end N) (until-done N i.1 (ended i.0 c.in-None.ensures.steps.3)) (omega arith)
