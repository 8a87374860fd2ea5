-- `mark_parts` meets its contract: a walk over the head of the entry is one over all of it.
use native.Mathlib.Omega.{arith}
use Rattle.nodes.proofs.Iterated.{begun-to, at-first, turn, ended}
use Rattle.nodes.proofs.Walking.{marks-done}
use Rattle.nodes.proofs.Marking.{marking-none}
use Rattle.nodes.proofs.Until.{one_end, until-starts, until-walks, until-done}
use Rattle.nodes.proofs.Head.{until-head, head-part}
use Rattle.nodes.proofs.mark_parts.Goals as goal

pub loop-part-init : goal.loop-part-init
loop-part-init c =
    let e = c.into_iter-part-iterator.ensures.into_iter_gives in
    let b = c.heads-part-items.ensures in
    (begun-to e b.0 b.1, rw (at-first e b.0) (until-starts (until-head c.requires.1 _ c.requires.0.1) (λ v i. marking-none _ v)))

pub loop-part-preserved : goal.loop-part-preserved
loop-part-preserved c =
    let P = c.requires in
    let i = c.loop-part.invariant in
    let t = turn i.0 c.in-Some.ensures.steps in
    (t.still, until-walks (until-head P.1 _ P.0.1) (rw (← t.is) at i.1) (head-part _ P.0.1) t.before t.moved c.mark_name.ensures)

pub returns : goal.returns
returns c = let i = c.loop-part.invariant in let N = until-head c.requires.1 _ c.requires.0.1 in marks-done (one_end N) (until-done N i.1 (ended i.0 c.in-None.ensures.steps.3)) (omega arith)
