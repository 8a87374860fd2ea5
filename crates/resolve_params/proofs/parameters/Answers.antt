-- `parameters` meets its contract: a walk over the head of the entry is one over all of it.
use native.Mathlib.Omega.{arith}
use Prim.Native.Nat.{◌+◌, ◌<◌}
use mathlib.Core.Path.{◌≡◌, refl, sym, subst}
use Rattle.rules.specs.Sweep.{has}
use Rattle.rules.specs.Tree.{param}
use Rattle.rules.specs.All.{entry_of}
use Rattle.records.proofs.Laws.{asked-or, asked-at-or, added-as, added-join}
use Rattle.records.proofs.Sweep.{keep-or}
use Rattle.nodes.specs.Shown.{View, tree_of}
use Rattle.nodes.specs.First.{NameFirst}
use Rattle.nodes.proofs.Entries.{entry-holds}
use Rattle.nodes.proofs.Shapes.{all_in, name-inside, within, ends-within}
use Rattle.nodes.proofs.Iterated.{begun-to, at-first, turn, ended}
use Rattle.nodes.proofs.Head.{head-is, head-end, head-starts, head-on, head_done}
use Rattle.nodes.proofs.Naming.{naming}
use Rattle.resolve_params.proofs.Lent.{params_at}
use Rattle.resolve_params.proofs.Lent.{among-params}
use Rattle.resolve_params.proofs.parameters.Goals as goal

pub loop-part-init : goal.loop-part-init
loop-part-init c =
    let e = c.into_iter-part-iterator.ensures.into_iter_gives in
    let b = c.heads-part-items.ensures in
    (begun-to e b.0 b.1, rw (at-first e b.0) (head-starts c.requires.1))

pub is_state-requires : goal.is_state-requires
is_state-requires c = let t = turn {t = c.next.new.self} c.loop-part.invariant.0 c.in-Some.ensures.steps in (naming.param.0, c.requires.0.named, t.here)

pub met-requires : goal.met-requires
met-requires c =
    let T = c.requires.0 in
    let i = c.loop-part.invariant in
    let t = turn {t = c.next.new.self} i.0 c.in-Some.ensures.steps in
    let z = t.is in
    let l = i.1.sweep.low in
    let h = t.before in
    let e = head-end c.requires.1 T.named.view in
    (naming.param.0, among-params T (omega arith) (omega arith), t.here, omega arith)

pub loop-part-preserved : goal.loop-part-preserved
unfolding all_in has
loop-part-preserved c =
    let H = c.requires.1 in
    let p = c.in-Some.part in
    let i = c.loop-part.invariant in
    let t = turn {t = c.next.new.self} i.0 c.in-Some.ensures.steps in
    let w = rw (← t.is) at i.1 in
    let l = w.sweep.low in
    let h = t.before in
    let inside : (W : View c.args.nodes.now 0) → (c.args.entry < p) × (p < (tree_of W).end c.args.entry) = λ W. let e = head-end H W in (omega arith, omega arith) in
    let name_in : (W : View c.args.nodes.now 0) → (tree_of W).kind p ≡ 10 → entry_of (tree_of W) (p + 1) ≡ c.args.entry = λ W k.
    let b = inside W in
    let b0 = b.0 in
    let n = name-inside W (within W H.here b.0 b.1) (subst NameFirst (sym k) naming.param.0) in
    let g = (ends-within W H.here b.0 b.1).1 in
    entry-holds W H.here H.positive (head-is H W) _ (omega arith) (omega arith) in (
      t.still,
      head-on H w refl h t.moved
          (added-as (λ T. let t = tree_of T.named.view in params_at t c.args.entry p (has (t.kind p) param))
          (added-join (asked-or (λ T. T.named) 24 (p + 1) (λ T. keep-or 10 _ p (name_in T.named.view)) _ (c.is_state.ensures 24 (p + 1)) c.emit_if-total.ensures)
          (asked-at-or (λ T. let b = inside T.named.view in among-params T b.0 b.1) 25 (p + 1) (λ T. keep-or 10 _ p (name_in T.named.view)) c.met.result (c.met.ensures 25) c.emit_hit-total.ensures))),
    )

pub returns : goal.returns
unfolding all_in has
returns c = let i = c.loop-part.invariant in head_done c.requires.1 i.1 refl (ended i.0 c.in-None.ensures.steps.3)
