-- `first_statement` meets its contract: no child before the one at hand is a statement.
use native.Mathlib.Omega.{arith}
use Prim.Native.Nat.{ℕ}
use mathlib.Core.Path.{◌≡◌, sym, ap, ◌∙◌}
use mathlib.Core.Bool.{true, false}
use Rattle.rules.specs.Sweep.{has}
use Rattle.rules.specs.Tree.{statement as statements}
use Rattle.nodes.specs.Shown.{View, tree_of}
use Rattle.nodes.proofs.Spans.{span_below, child-on}
use Rattle.nodes.proofs.Flat.{none-on, starts}
use Rattle.nodes.proofs.Iterated.{begun, at-first, ends-at, turn, ended}
use Rattle.items.proofs.first_statement.Goals as goal

pub loop-child-init : goal.loop-child-init
loop-child-init c =
    let W = c.requires.0 in
    let e = c.into_iter-child-iterator.ensures.into_iter_gives in
    let b = c.of-child-items.ensures in
    let f = at-first e b.0 in
    let S = span_below W c.requires.1 (ends-at c.args.entry e b.1 W) in
    let o = S.order in
    (begun e b.0, S, omega arith, omega arith, λ W i a b. absurd (omega arith))

pub returns-then-is_statement : goal.returns-then-is_statement
returns-then-is_statement c =
    let i = c.loop-child.invariant in
    let t = turn {t = c.next.new.self} i.0 c.in-Some.ensures.steps in
    let d = ends-at c.args.entry c.into_iter-child-iterator.ensures.into_iter_gives c.of-child-items.ensures.1 in
    let told : (W : View c.args.nodes.now c.args.base) → has ((tree_of W).kind c.in-Some.child) statements ≡ true = λ W. ap (λ (k : ℕ). has k statements) (sym (c.kind.ensures W)) ∙ sym c.is_statement.ensures ∙ c.if-is_statement.true in
    λ W. starts W (rw (← t.is) at i.2) (d W) (rw (← t.is) at i.3) (rw (← t.is) at (i.4 W)) (λ _. told W)

pub loop-child-preserved : goal.loop-child-preserved
loop-child-preserved c =
    let i = c.loop-child.invariant in
    let t = turn i.0 c.in-Some.ensures.steps in
    let d = ends-at c.args.entry c.into_iter-child-iterator.ensures.into_iter_gives c.of-child-items.ensures.1 in
    let told : (W : View c.args.nodes.now c.args.base) → has ((tree_of W).kind c.in-Some.child) statements ≡ false = λ W. ap (λ (k : ℕ). has k statements) (sym (c.kind.ensures W)) ∙ sym c.is_statement.ensures ∙ c.if-is_statement.false in
    let W = c.requires.0 in
    let l = rw (← t.is) at i.2 in
    let m = child-on W c.requires.1 (d W) l t.before (t.moved W) in
    (t.still, i.1, omega arith, m.1, λ W. none-on W c.requires.1 c.requires.2 l (let e = d W in let h = t.before in omega arith) (rw (← t.is) at (i.4 W)) (told W) (t.moved W))

pub returns : goal.returns
returns c =
    let i = c.loop-child.invariant in
    let d = ends-at c.args.entry c.into_iter-child-iterator.ensures.into_iter_gives c.of-child-items.ensures.1 in
    let l = ended i.0 c.in-None.ensures.steps.3 in
    let W = c.requires.0 in
    let z : c.loop-child.child-iterator.rest.at ≡ c.end.result = let e = d W in let f = c.end.ensures W in let h = i.3 in omega arith in
    λ W. starts W (rw z at i.2) (c.end.ensures W) (omega arith) (rw z at (i.4 W)) (λ h. absurd (omega arith))
