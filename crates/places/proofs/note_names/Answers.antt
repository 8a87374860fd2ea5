-- `note_names` meets its contract: a walk over the items and the fields of the contract.
use mathlib.Core.Path.{refl}
use Rattle.nodes.proofs.Walking.{walk-starts, walk-on}
use Rattle.nodes.proofs.Declared.{begun, at-first, ends-at, turn, ended, goes-on}
use Rattle.places.proofs.Noting.{noted-below}
use Rattle.places.proofs.note_names.Goals as goal

pub loop-declaration-init : goal.loop-declaration-init
loop-declaration-init c =
    let P = c.requires in
    let e = c.into_iter-declaration-iterator.ensures.into_iter_gives in
    let b = c.of-declaration-items.ensures in
    (begun e b, rw (at-first e b) (walk-starts P.1 P.2 (ends-at e b) (λ v i. refl)))

pub loop-declaration-preserved : goal.loop-declaration-preserved
loop-declaration-preserved c =
    let P = c.requires in
    let i = c.loop-declaration.invariant in
    let t = turn i.0 c.in-Some.ensures.steps in
    let d = ends-at c.into_iter-declaration-iterator.ensures.into_iter_gives c.of-declaration-items.ensures in
    let m = rw (← t.is) at i.1 in
    (t.still, walk-on P.1 P.2 d m t.before (goes-on P.0 m.fold.low t) c.note_node.ensures)

pub returns : goal.returns
returns c = let i = c.loop-declaration.invariant in noted-below (ends-at c.into_iter-declaration-iterator.ensures.into_iter_gives c.of-declaration-items.ensures) i.1 (ended i.0 c.in-None.ensures.steps.2)
