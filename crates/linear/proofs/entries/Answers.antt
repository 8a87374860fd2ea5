-- `entries` meets its contract: a walk from item to item, with clean tables between them.
use borrow.Author.Rules.{rules}
use native.Mathlib.Omega.{arith}
use mathlib.Core.Path.{refl}
use Rattle.rules.specs.Sweep.{has}
use Rattle.rules.specs.Tree.{entry}
use Rattle.rules.specs.Linear.{linear, linear_entry}
use Rattle.records.proofs.Laws.{added-by}
use Rattle.records.proofs.Sweep.{sweep-starts, sweep-on, sweep-long, swept, run-below, keep-none}
use Rattle.nodes.specs.Shown.{tree_of}
use Rattle.nodes.proofs.Spans.{span_below, child-on}
use Rattle.nodes.proofs.Shapes.{all_in, skips-items}
use Rattle.nodes.proofs.Iterated.{begun, at-first, ends-at, turn, ended}
use Rattle.linear.proofs.Fresh.{cleaned}
use Rattle.linear.proofs.entries.Goals as goal

pub loop-item-init : goal.loop-item-init
loop-item-init c =
    let d = c.requires in
    let T = d.0 in
    let e = c.into_iter-item-iterator.ensures.into_iter_gives in
    let b = c.from-item-items.ensures in
    let at = at-first e b.0 in
    let S = span_below T.known.view T.root (ends-at 0 e b.1 T.known.view) in
    (begun e b.0, S, rw at (sweep-starts S.order), λ T. (T.clean, rw at d.1))

pub entry-total-requires : goal.entry-total-requires
entry-total-requires c =
    let T = c.requires.0 in
    let i = c.loop-item.invariant in
    let t = turn {t = c.next.new.self} i.0 c.in-Some.ensures.steps in
    let is = t.is in
    let l = i.2.low in
    let q = rw (← is) at (i.3 T) in
    (cleaned T q.0, t.here, omega arith, q.1, search rules)

pub loop-item-preserved : goal.loop-item-preserved
unfolding all_in has
loop-item-preserved c =
    let i = c.loop-item.invariant in
    let t = turn i.0 c.in-Some.ensures.steps in
    let S = rw (← t.is) at i.2 in
    let q = rw (← t.is) at i.3 in
    let W = c.requires.0.known.view in
    let to = ends-at 0 c.into_iter-item-iterator.ensures.into_iter_gives c.from-item-items.ensures.1 in
    let m = child-on W c.requires.0.root (to W) S.low t.before (t.moved W) in
    let r = c.entry-total.ensures in (
      t.still,
      i.1,
      sweep-on S (added-by (λ T. cleaned T (q T).0) (λ T. refl) r.adds) m.0 m.1 (λ T j a d. keep-none _ j (skips-items entry refl T.known.view t.here S.low (t.moved T.known.view) j a d)),
      λ T. let k = r.cleans_rows (cleaned T (q T).0) in let e = t.moved T.known.view in (k.0, rw e k.1),
    )

pub shape_of-out : goal.shape_of-out
shape_of-out c = sweep-long c.loop-item.invariant.2 c.requires.0

pub returns : goal.returns
unfolding linear
returns c =
    let i = c.loop-item.invariant in
    let to = ends-at 0 c.into_iter-item-iterator.ensures.into_iter_gives c.from-item-items.ensures.1 in
    swept i.2 (ended i.0 c.in-None.ensures.steps.3) (λ T. let t = tree_of T.known.view in run-below t entry (linear_entry t) 0 1 _ refl (to T.known.view)) (let u = i.1.under in omega arith)
