-- `note_until` meets its contract: a walk over the children before which all such parts stand is one over all of them.
use native.Mathlib.Omega.{arith}
use mathlib.Core.Path.{refl}
use Rattle.nodes.proofs.Until.{one_end, until-starts, until-walks, until-done}
use Rattle.nodes.proofs.Iterated.{begun-to, at-first, turn, ended}
use Rattle.places.proofs.Noting.{noted-below}
use Rattle.places.proofs.note_until.Goals as goal

pub until-part-items-requires : goal.until-part-items-requires
until-part-items-requires c = (c.args.kind, c.requires.1)

pub loop-part-init : goal.loop-part-init
loop-part-init c =
    let e = c.into_iter-part-iterator.ensures.into_iter_gives in
    let b = c.until-part-items.ensures in
    (begun-to e b.0 b.1, rw (at-first e b.0) (until-starts c.requires.1 (λ v i. refl)))

pub loop-part-preserved : goal.loop-part-preserved
loop-part-preserved c =
    let i = c.loop-part.invariant in
    let t = turn i.0 c.in-Some.ensures.steps in
    (t.still, until-walks c.requires.1 (rw (← t.is) at i.1) c.requires.0.1 t.before t.moved c.note_node.ensures)

pub returns : goal.returns
returns c = let i = c.loop-part.invariant in noted-below (one_end c.requires.1) (until-done c.requires.1 i.1 (ended i.0 c.in-None.ensures.steps.3)) (omega arith)
