-- `down` meets its contract: the walk stops at the first node that is not taken off, or at the end.
use native.Mathlib.Omega.{arith}
use mathlib.Core.Path.{◌≡◌, ◌∙◌, sym, ap}
use mathlib.Core.Bool.{not}
use Prim.Native.Nat.{ℕ}
use Rattle.rules.specs.Sweep.{has}
use Rattle.nodes.specs.Shown.{View, tree_of}
use Rattle.nodes.specs.Past.{taken_off}
use Rattle.nodes.proofs.Spans.{span_of}
use Rattle.nodes.proofs.Fall.{falls-from, falls-on, first-here, first-over}
use Rattle.nodes.proofs.down.Goals as goal

pub loop-r-init : goal.loop-r-init
loop-r-init c = let S = span_of c.requires.0 c.requires.1 (c.end-to.ensures c.requires.0) in (S, falls-from S.order c.end-to.ensures)

pub returns-then-not-is_past : goal.returns-then-not-is_past
returns-then-not-is_past c =
    let told : (W : View c.args.nodes.now c.args.base) → has ((tree_of W).kind c.loop-r.r) (taken_off c.args.past) ≡ c.is_past.result = λ W. ap (λ (k : ℕ). has k (taken_off c.args.past)) (sym (c.kind.ensures W)) ∙ sym c.is_past.ensures in
    let F = c.loop-r.invariant.1 in (F.low, λ W. sym (F.rest W ∙ first-here _ _ _ c.loop-r-test.true (ap not (told W ∙ c.if-not-is_past.true))))

pub loop-r-preserved : goal.loop-r-preserved
loop-r-preserved c =
    let told : (W : View c.args.nodes.now c.args.base) → has ((tree_of W).kind c.loop-r.r) (taken_off c.args.past) ≡ c.is_past.result = λ W. ap (λ (k : ℕ). has k (taken_off c.args.past)) (sym (c.kind.ensures W)) ∙ sym c.is_past.ensures in
    let i = c.loop-r.invariant in (i.0, falls-on i.1 c.loop-r-test.true (λ W. told W ∙ c.if-not-is_past.false))

pub returns : goal.returns
returns c = let i = c.loop-r.invariant in let F = i.1 in let d = i.0.order in let z : c.loop-r.r ≡ c.end-to.result = omega arith in (d, λ W. sym (F.rest W ∙ first-over _ _ _ z ∙ z))
