-- `many_assets` meets its contract: a walk over items and fields meets a second Asset item, or the end.
use native.Mathlib.Omega.{arith}
use mathlib.Core.Path.{refl, sym, ◌∙◌}
use Rattle.rules.specs.Sweep.{has}
use Rattle.rules.specs.Tree.{asset, declarations}
use Rattle.nodes.specs.Shown.{tree_of}
use Rattle.nodes.proofs.Shapes.{all_in}
use Rattle.nodes.proofs.Walks.{declarations-on, none_of}
use Rattle.nodes.proofs.Declared.{begun, at-first, ends-at, turn, ended}
use Rattle.resolve_mints.proofs.Assets.{met-starts, met-still, met-now, many, few}
use Rattle.resolve_mints.proofs.many_assets.Goals as goal

pub loop-p-init : goal.loop-p-init
loop-p-init c =
    let e = c.into_iter-p-iterator.ensures.into_iter_gives in
    let b = c.of-p-items.ensures in
    (begun e b, rw (at-first e b) (omega arith), λ W. rw (at-first e b) (met-starts (tree_of W)))

pub returns-then-met : goal.returns-then-met
returns-then-met c =
    λ W.
    let i = c.loop-p.invariant in
    let t = turn {t = c.next.new.self} i.0 c.in-Some.ensures.steps in
    let h = t.before in
    let d = ends-at c.into_iter-p-iterator.ensures.into_iter_gives c.of-p-items.ensures W in
    many (tree_of W) refl (rw (← t.is) at (i.2 W)) c.if-met.true (sym (c.kind.ensures W) ∙ c.if-kind-eq-ASSET.true) (omega arith)

pub loop-p-preserved : goal.loop-p-preserved
unfolding all_in has
loop-p-preserved c =
    let i = c.loop-p.invariant in
    let t = turn i.0 c.in-Some.ensures.steps in
    let z = rw (← t.is) at i.1 in
    let n = (declarations-on c.requires.0 t.here z (t.moved c.requires.0)).after in
    (t.still, omega arith, λ W. let N = declarations-on W t.here z (t.moved W) in met-still (tree_of W) (rw (← t.is) at (i.2 W)) N.after (none_of asset declarations refl N) (λ e. c.if-kind-eq-ASSET.false (c.kind.ensures W ∙ e)))

pub loop-p-preserved-then-kind-eq-ASSET : goal.loop-p-preserved-then-kind-eq-ASSET
unfolding all_in has
loop-p-preserved-then-kind-eq-ASSET c =
    let i = c.loop-p.invariant in
    let t = turn i.0 c.in-Some.ensures.steps in
    let z = rw (← t.is) at i.1 in
    let n = (declarations-on c.requires.0 t.here z (t.moved c.requires.0)).after in
    (t.still, omega arith, λ W. let N = declarations-on W t.here z (t.moved W) in met-now (tree_of W) (rw (← t.is) at (i.2 W)) N.after (none_of asset declarations refl N) c.if-met.false (sym (c.kind.ensures W) ∙ c.if-kind-eq-ASSET.true))

pub returns : goal.returns
returns c =
    λ W.
    let i = c.loop-p.invariant in
    let l = ended i.0 c.in-None.ensures.steps.2 in
    let d = ends-at c.into_iter-p-iterator.ensures.into_iter_gives c.of-p-items.ensures W in
    few (tree_of W) refl (i.2 W) (omega arith)
