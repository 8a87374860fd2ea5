-- `entry_key` meets its contract: a walk from parameter to parameter.
use native.Mathlib.Omega.{arith}
use Prim.Native.Nat.{ℕ, ◌+◌, ◌<◌, ◌≤◌}
use mathlib.Core.Path.{◌≡◌, sym, ap, ◌∙◌}
use mathlib.Core.List.{List}
use Rattle.nodes.specs.Shown.{View, tree_of}
use Rattle.nodes.specs.declared.walk.Children.{Children}
use Rattle.nodes.proofs.Iterated.{Turn, begun, at-first, ends-at, turn, ended}
use Rattle.resolve_overloads.proofs.Turns.{few-nodes}
use Rattle.signature.proofs.Reading.{entry_first, params-from, param-type-in, param-past}
use Rattle.resolve_overloads.proofs.Keys.{key-start, key-done, key-on}
use Rattle.resolve_overloads.proofs.entry_key.Goals as goal

-- the child p of the entry e, where the walk stood at q
low-now : (e : ℕ) {part : List ℕ} {to p : ℕ} {s t : Children} → e + 2 ≤ s.rest.at → Turn part 0 to s p t → e + 2 ≤ p
low-now e l t = let z = t.is in omega arith

before-end : (e : ℕ) {part : List ℕ} {to p : ℕ} {s t : Children} → ((W : View part 0) → to ≡ (tree_of W).end e) → Turn part 0 to s p t → (W : View part 0) → p < (tree_of W).end e
before-end e d t W = let x = d W in let g = t.before in omega arith

pub loop-param-init : goal.loop-param-init
loop-param-init c =
    let E = c.requires in
    let e = c.into_iter-param-iterator.ensures.into_iter_gives in
    let b = c.from-param-items.ensures in
    let s = at-first e b.0 in
    let d = ends-at c.args.e e b.1 E.view in
    let f = (params-from E.view E.here E.is).1 in
    (begun e b.0, omega arith, omega arith, λ W. rw s (key-start W.image c.args.e (c.name-key.ensures W) (few-nodes W E.here).1))

pub loop-param-preserved : goal.loop-param-preserved
loop-param-preserved c =
    let E = c.requires in
    let i = c.loop-param.invariant in
    let d = ends-at c.args.e c.into_iter-param-iterator.ensures.into_iter_gives c.from-param-items.ensures.1 in
    let t = turn {t = c.next.new.self} i.0 c.in-Some.ensures.steps in
    let l = low-now c.args.e i.1 t in
    let is-param : (W : View c.args.nodes.now 0) → (tree_of W).kind c.in-Some.param ≡ 10 = λ W. sym (c.kind.ensures W) ∙ c.if-kind-ne-PARAM.false in
    let b = before-end c.args.e d t in
    let m = param-past E.view E.here l (b E.view) (is-param E.view) (t.moved E.view) in
    let u = d E.view in
    (t.still, omega arith, omega arith, λ W. key-on W E.here l (b W) (is-param W) (rw (← t.is) at (i.3 W)) (c.type_key-key.ensures W) (t.moved W))

pub returns : goal.returns
returns c = λ W.
    let i = c.loop-param.invariant in
    let d = ends-at c.args.e c.into_iter-param-iterator.ensures.into_iter_gives c.from-param-items.ensures.1 W in
    let g = ended i.0 c.in-None.ensures.steps.3 in
    key-done W (i.3 W) (λ h k. omega arith)

pub name-key-requires : goal.name-key-requires
name-key-requires c = let E = c.requires in (entry_first E.view E.here E.is).0

pub from-param-items-requires : goal.from-param-items-requires
from-param-items-requires c = (c.requires.view, c.requires.here, omega arith)

pub kind-requires : goal.kind-requires
kind-requires c = let i = c.loop-param.invariant in let t = turn {t = c.next.new.self} i.0 c.in-Some.ensures.steps in t.here

pub returns-then-kind-ne-PARAM : goal.returns-then-kind-ne-PARAM
returns-then-kind-ne-PARAM c =
    let i = c.loop-param.invariant in
    let t = turn {t = c.next.new.self} i.0 c.in-Some.ensures.steps in
    λ W. key-done W (i.3 W) (λ h k. c.if-kind-ne-PARAM.true (c.kind.ensures W ∙ ap (tree_of W).kind t.is ∙ k))

pub type_key-key-requires : goal.type_key-key-requires
type_key-key-requires c =
    let E = c.requires in
    let W = E.view in
    let i = c.loop-param.invariant in
    let d = ends-at c.args.e c.into_iter-param-iterator.ensures.into_iter_gives c.from-param-items.ensures.1 in
    let t = turn {t = c.next.new.self} i.0 c.in-Some.ensures.steps in
    (W, (param-type-in W E.here (low-now c.args.e i.1 t) (before-end c.args.e d t W) (sym (c.kind.ensures W) ∙ c.if-kind-ne-PARAM.false)).0)
