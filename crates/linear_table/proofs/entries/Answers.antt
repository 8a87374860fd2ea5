-- `entries` meets its contract: a walk from item to item, with clean tables between them, up to the first that has a 60.
use native.Mathlib.Omega.{arith}
use mathlib.Core.Path.{refl}
use Rattle.rules.specs.Sweep.{has}
use Rattle.rules.specs.Tree.{entry}
use Rattle.std.proofs.lemmas.Result.{err_from_is_err_and}
use Rattle.nodes.proofs.Spans.{span_below, child-on}
use Rattle.nodes.proofs.Shapes.{all_in, skips-items}
use Rattle.nodes.proofs.Iterated.{begun, at-first, ends-at, turn, ended}
use Rattle.linear.proofs.Fresh.{cleaned}
use Rattle.linear_table.proofs.Cutting.{cutting-starts, cutting-on, cut-stops, cut-done}
use Rattle.linear_table.proofs.entries.Goals as goal

pub loop-item-init : goal.loop-item-init
loop-item-init c =
    let d = c.requires in
    let W = d.0.known.view in
    let e = c.into_iter-item-iterator.ensures.into_iter_gives in
    let b = c.of-item-items.ensures in
    let at = at-first e b.0 in
    let S = span_below W d.0.root (ends-at 0 e b.1 W) in
    let h = S.order in
    (begun e b.0, S, omega arith, omega arith, omega arith, λ T. (T.clean, rw at d.1, rw at (cutting-starts d.2)))

pub entry-requires : goal.entry-requires
entry-requires c =
    let T = c.requires.0 in
    let i = c.loop-item.invariant in
    let t = turn {t = c.next.new.self} i.0 c.in-Some.ensures.steps in
    let is = t.is in
    let l = i.2 in
    let f = i.4 in
    let q = rw (← is) at (i.5 T) in
    (cleaned T q.0, t.here, omega arith, q.1, omega arith)

pub returns-in_err-total : goal.returns-in_err-total
returns-in_err-total c =
    λ T.
    let i = c.loop-item.invariant in
    let t = turn {t = c.next.new.self} i.0 c.in-Some.ensures.steps in
    let is = t.is in
    let l = t.before in
    let low = i.2 in
    let f = i.4 in
    let u = i.1.under in
    let e = ends-at 0 c.into_iter-item-iterator.ensures.into_iter_gives c.of-item-items.ensures.1 T.known.view in
    let q = rw (← is) at (i.5 T) in
    let p = err_from_is_err_and c.from_residual.result c.from_residual.ensures.1 in rw (p.1, p.2) (cut-stops q.2 (rw c.in_err-total.was at (c.entry.ensures (cleaned T q.0))) (omega arith) (omega arith) (omega arith) (omega arith))

pub loop-item-preserved : goal.loop-item-preserved
unfolding all_in has
loop-item-preserved c =
    let T₀ = c.requires.0 in
    let W₀ = T₀.known.view in
    let i = c.loop-item.invariant in
    let t = turn i.0 c.in-Some.ensures.steps in
    let is = t.is in
    let low = i.2 in
    let to = ends-at 0 c.into_iter-item-iterator.ensures.into_iter_gives c.of-item-items.ensures.1 in
    let m = child-on W₀ T₀.root (to W₀) (rw (← is) at low) t.before (t.moved W₀) in
    let q = rw (← is) at i.5 in
    let f = (rw c.in_ok-total.was at (c.entry.ensures (cleaned T₀ (q T₀).0))).room in
    let on = t.moved W₀ in (
      t.still,
      i.1,
      omega arith,
      m.1,
      omega arith,
      λ T.
          let I = rw c.in_ok-total.was at (c.entry.ensures (cleaned T (q T).0)) in
          let e = t.moved T.known.view in
          (I.clean, rw e I.clear, cutting-on (q T).2 I (omega arith) m.0 (λ j a d. skips-items entry refl T.known.view t.here (omega arith) e j a d)),
    )

pub returns : goal.returns
returns c =
    λ T.
    let i = c.loop-item.invariant in
    let l = ended i.0 c.in-None.ensures.steps.3 in
    let h = i.3 in
    let u = i.1.under in
    let e = ends-at 0 c.into_iter-item-iterator.ensures.into_iter_gives c.of-item-items.ensures.1 T.known.view in
    cut-done (i.5 T).2 i.2 (omega arith) i.4 (omega arith)
