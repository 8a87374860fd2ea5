-- `statements` meets its contract: a walk from statement to statement, in each one a sweep over its Idents.
use mathlib.Core.Path.{refl, sym, ◌∙◌}
use Rattle.rules.specs.Sweep.{has}
use Rattle.records.proofs.Laws.{held_all, held-as, added-by, added-as, added-join}
use Rattle.records.proofs.Sweep.{keep_one}
use Rattle.nodes.proofs.Shapes.{all_in}
use Rattle.nodes.proofs.Spans.{upto_is}
use Rattle.nodes.proofs.Iterated.{begun-to, at-first, turn, ended}
use Rattle.nodes.proofs.Steps.{steps-start, step-at, steps_on, steps-done}
use Rattle.resolve_lets.proofs.statements.Goals as goal

pub loop-s-init : goal.loop-s-init
loop-s-init c =
    let h = held_all _ c.requires.0 in
    let W = c.requires.0.scope.body.view in
    let e = c.into_iter-s-iterator.ensures.into_iter_gives in
    let b = c.all-s-items.ensures in
    (begun-to e b.0 (b.1 W ∙ sym (upto_is W)), rw (at-first e b.0) (steps-start h))

pub loop-s-preserved : goal.loop-s-preserved
unfolding all_in has
loop-s-preserved c =
    let i = c.loop-s.invariant in
    let t = turn i.0 c.in-Some.ensures.steps in
    let w = rw (← t.is) at i.1 in (
      t.still,
      steps_on refl (held_all _ c.requires.0) w t.here t.moved
          (added-as (λ T. sym (keep_one _ _ (step-at w t.here t.moved T).is)) (added-join (added-by (held-as (λ T. T.scope)) (λ h. refl) c.idents-total.ensures) c.let_names-total.ensures)),
    )

pub returns : goal.returns
returns c = let i = c.loop-s.invariant in steps-done i.1 (ended i.0 c.in-None.ensures.steps.3)
