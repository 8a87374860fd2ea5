-- `declared_writes` meets its contract: a walk over the head of the entry is one over all of it.
use native.Mathlib.Omega.{arith}
use mathlib.Core.Path.{refl}
use Rattle.rules.specs.Sweep.{has}
use Rattle.nodes.proofs.Iterated.{begun-to, at-first, turn, ended}
use Rattle.nodes.proofs.Walking.{marks-done}
use Rattle.nodes.proofs.Marking.{marking-none}
use Rattle.nodes.proofs.Until.{one_end, until-starts, until-walks, until-done}
use Rattle.nodes.proofs.Head.{until-head}
use Rattle.access.proofs.declared_writes.Goals as goal

pub loop-clause-init : goal.loop-clause-init
unfolding has
loop-clause-init c =
    let e = c.into_iter-clause-iterator.ensures.into_iter_gives in
    let b = c.heads-clause-items.ensures in
    (begun-to e b.0 b.1, rw (at-first e b.0) (until-starts (until-head c.requires 14 refl) (λ v i. marking-none _ v)))

pub loop-clause-preserved : goal.loop-clause-preserved
unfolding has
loop-clause-preserved c =
    let i = c.loop-clause.invariant in
    let t = turn i.0 c.in-Some.ensures.steps in
    (t.still, until-walks (until-head c.requires 14 refl) (rw (← t.is) at i.1) refl t.before t.moved c.mark_clause.ensures)

pub returns : goal.returns
unfolding has
returns c = let i = c.loop-clause.invariant in let N = until-head c.requires 14 refl in marks-done (one_end N) (until-done N i.1 (ended i.0 c.in-None.ensures.steps.3)) (omega arith)
