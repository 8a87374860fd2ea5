-- `clauses` meets its contract: a walk over the head of the entry is one over all of it.
use mathlib.Core.Path.{refl}
use Rattle.rules.specs.Sweep.{has}
use Rattle.nodes.proofs.Entries.{head-told}
use Rattle.nodes.proofs.Shapes.{all_in}
use Rattle.nodes.proofs.Iterated.{at-first, turn, ended}
use Rattle.nodes.proofs.Head.{head-starts, head_done}
use Rattle.resolve_clauses.proofs.Heads.{headed}
use Rattle.resolve_clauses.proofs.clauses.Goals as goal

pub loop-part-init : goal.loop-part-init
loop-part-init c =
    let e = c.into_iter-part-iterator.ensures.into_iter_gives in
    let b = c.heads-part-items.ensures in
    (headed e b, rw (at-first e b.0) (head-starts c.requires.1))

pub loop-part-preserved : goal.loop-part-preserved
unfolding all_in has
loop-part-preserved c =
    let i = c.loop-part.invariant in
    let t = turn i.0 c.in-Some.ensures.steps in
    (t.still, head-told c.requires.1 (rw (← t.is) at i.1) refl t.before t.moved c.clause-total.ensures)

pub returns : goal.returns
unfolding all_in has
returns c = let i = c.loop-part.invariant in head_done c.requires.1 i.1 refl (ended i.0 c.in-None.ensures.steps.3)
