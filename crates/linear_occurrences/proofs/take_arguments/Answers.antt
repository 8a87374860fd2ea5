-- `take_arguments` meets its contract: a walk from child to child, past the callee.
use native.Mathlib.Omega.{arith}
use Prim.Native.Nat.{ℕ}
use mathlib.Core.Path.{sym, ap, ◌∙◌}
use mathlib.Core.Bool.{Bool}
use Rattle.image.specs.Pick.{pick}
use Rattle.rules.specs.Sweep.{also}
use Rattle.rules.proofs.Reflect.{tells-is_child}
use Rattle.nodes.specs.Shown.{tree_of}
use Rattle.nodes.proofs.Spans.{span_of, child-on}
use Rattle.nodes.proofs.ChildrenOf.{no-child, reached-on}
use Rattle.nodes.proofs.Iterated.{begun, at-first, ends-at, turn, ended}
use Rattle.linear_occurrences.specs.Counted.{peels_to}
use Rattle.linear_occurrences.proofs.Cells.{putting-starts, putting-on, putting-done, cells-as}
use Rattle.linear_occurrences.proofs.Taken.{callee-in, reached-first, taken_is}
use Rattle.linear_occurrences.proofs.take_arguments.Goals as goal

pub end-from-requires : goal.end-from-requires
end-from-requires c = let d = c.requires in (callee-in d.0 d.1.0 (d.1.1 d.0)).0

-- the callee's end is past the Call
pub from-argument-items-requires : goal.from-argument-items-requires
from-argument-items-requires c = let d = c.requires in let W = d.0 in let h = (callee-in W d.1.0 (d.1.1 W)).1 in let f = c.end-from.ensures W in (W, d.1.0, omega arith)

pub loop-argument-init : goal.loop-argument-init
loop-argument-init c =
    let d = c.requires in
    let W = d.0 in
    let e = c.into_iter-argument-iterator.ensures.into_iter_gives in
    let b = c.from-argument-items.ensures in
    let f = c.end-from.ensures W in
    let to = ends-at c.args.call e b.1 W in
    let at = at-first e b.0 in
    let h = callee-in W d.1.0 (d.1.1 W) in
    let x = h.1 in
    let y = h.2 in
    (begun e b.0, span_of W d.1.0 to, omega arith, λ V. reached-first V d.1.0 (d.1.1 V) (at ∙ c.end-from.ensures V), rw at (putting-starts (omega arith)))

pub loop-argument-preserved : goal.loop-argument-preserved
loop-argument-preserved c =
    let d = c.requires in
    let W = d.0 in
    let n = c.loop-argument in
    let call = c.args.call in
    let i = n.invariant in
    let t = turn i.0 c.in-Some.ensures.steps in
    let is = t.is in
    let on = t.moved in
    let to = ends-at call c.into_iter-argument-iterator.ensures.into_iter_gives c.from-argument-items.ensures.1 in
    let m = child-on W d.1.0 (to W) i.2 (rw is at t.before) (rw is at (on W)) in (
      t.still,
      i.1,
      let k = i.2 in omega arith,
      λ V. rw (on V, is) (reached-on V d.1.0 i.2 (let e = to V in let b = t.before in omega arith) (i.3 V)),
      putting-on i.4
          (λ V P F. cells-as (λ j. ap (λ (a : ℕ). pick (peels_to (tree_of V) j a) call (P j)) is ∙ sym (ap (λ (x : Bool). pick (also x (peels_to (tree_of V) j) n.argument-iterator.rest.at) call (P j)) ((tells-is_child (tree_of V) _ _).back (i.3 V)))) (c.take_argument.ensures V P F))
          m.0 m.1
          (λ V j a l h. ap (λ (x : Bool). also x (peels_to (tree_of V) j) a) (no-child (tree_of V) _ n.argument-iterator.rest.at a i.2 l (let e = rw is at (on V) in omega arith))),
    )

pub returns : goal.returns
returns c =
    let d = c.requires in
    let W = d.0 in
    let i = c.loop-argument.invariant in
    let h = callee-in W d.1.0 (d.1.1 W) in
    let x = h.1 in
    let y = h.2 in
    let f = c.end-from.ensures W in
    let to = ends-at c.args.call c.into_iter-argument-iterator.ensures.into_iter_gives c.from-argument-items.ensures.1 in
    let e = to W in
    λ V P F.
    cells-as (λ i. ap (λ (b : Bool). pick b c.args.call (P i)) (taken_is (tree_of V) _ i _ _ (c.end-from.ensures V) (to V) (omega arith) (omega arith)))
    (putting-done i.4 (ended i.0 c.in-None.ensures.steps.3) V P F)
