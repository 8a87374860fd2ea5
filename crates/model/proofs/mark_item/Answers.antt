-- `mark_item` meets its contract: a walk over the types of the item.
use borrow.Author.Rules.{rules}
use native.Mathlib.Omega.{arith}
use Prim.Native.Nat.{◌<◌, ◌≤◌}
use mathlib.Core.Path.{sym, ap}
use mathlib.Core.Bool.{Bool, true}
use Rattle.rules.specs.Sweep.{also}
use Rattle.rules.specs.Tree.{type}
use Rattle.rules.specs.Model.{inner}
use Rattle.nodes.specs.Shown.{In, tree_of}
use Rattle.nodes.specs.Marks.{marking}
use Rattle.nodes.proofs.Names.{marks-as}
use Rattle.nodes.proofs.Marking.{marking-starts, marking-on, marking-done}
use Rattle.nodes.proofs.Walks.{Next, types-on}
use Rattle.model.specs.Assets.{Assets}
use Rattle.model.proofs.Types.{types-span}
use Rattle.model.proofs.Items.{item-sooner}
use Rattle.model.proofs.mark_item.Goals as goal

pub loop-p-init : goal.loop-p-init
loop-p-init c = let W = c.requires.0.view in let S = types-span W c.requires.1 (c.types_end-to.ensures W) in (S, marking-starts S.order)

pub loop-p-smaller : goal.loop-p-smaller
loop-p-smaller c =
    let here : In c.args.nodes.now 0 c.loop-p.p = search rules in
    let next : (A : Assets c.args.nodes.now c.args.asset) → Next A.view type c.loop-p.p c.next_type-p.result = λ A. let z = c.requires.2 in let l = c.loop-p.invariant.1.low in types-on A.view (here) (omega arith) (c.next_type-p.ensures A.view) in
    let moved : (c.loop-p.p < c.next_type-p.result) × (c.next_type-p.result ≤ c.types_end-to.result) = let A = c.requires.0 in let e = c.next_type-p.ensures A.view in let s = (c.types_end-to.ensures A.view).stays _ c.loop-p.invariant.1.low c.loop-p-test.true in ((next A).after, omega arith) in
    let m = moved in omega arith

pub loop-p-preserved : goal.loop-p-preserved
loop-p-preserved c =
    let here : In c.args.nodes.now 0 c.loop-p.p = search rules in
    let next : (A : Assets c.args.nodes.now c.args.asset) → Next A.view type c.loop-p.p c.next_type-p.result = λ A. let z = c.requires.2 in let l = c.loop-p.invariant.1.low in types-on A.view (here) (omega arith) (c.next_type-p.ensures A.view) in
    let moved : (c.loop-p.p < c.next_type-p.result) × (c.next_type-p.result ≤ c.types_end-to.result) = let A = c.requires.0 in let e = c.next_type-p.ensures A.view in let s = (c.types_end-to.ensures A.view).stays _ c.loop-p.invariant.1.low c.loop-p-test.true in ((next A).after, omega arith) in
    let i = c.loop-p.invariant in (i.0, marking-on i.1 c.mark_inner.ensures (moved).0 (moved).1 (λ A w j a b. ap (λ (t : Bool). also t (inner (tree_of A.view) w) j) ((next A).none j a b)))

pub returns : goal.returns
returns c = λ A P M. marks-as (λ w. ap (marking true (P w)) (sym (item-sooner A (c.types_end-to.ensures A.view) w))) (marking-done c.loop-p.invariant.1 c.loop-p-test.false A P M)
