-- `repeats` meets its contract: a walk from item to item, with the names so far marked.
use native.Mathlib.Omega.{arith}
use Prim.Native.Nat.{ℕ, ◌-◌, ◌≤◌}
use mathlib.Core.Path.{◌≡◌, refl, sym, ◌∙◌}
use mathlib.Core.Bool.{Bool, true≢false}
use mathlib.Core.List.{List}
use Rattle.rules.specs.Tree.{entry}
use Rattle.rules.specs.Resolve.{rule23, group23}
use Rattle.records.proofs.Sweep.{run-below, run-empty}
use Rattle.nodes.specs.Marks.{Marks}
use Rattle.nodes.specs.Shown.{View, In, tree_of}
use Rattle.nodes.proofs.Spans.{span_below, child-on}
use Rattle.nodes.proofs.Iterated.{begun, at-first, ends-at, turn, ended}
use Rattle.resolve_overloads.specs.Entries.{Seen, earlier}
use Rattle.signature.proofs.Sought.{Next}
use Rattle.resolve_overloads.proofs.Sought.{seen-on, nothing-on}
use Rattle.resolve_overloads.proofs.repeats.Goals as goal

next-at : {nodes : List ℕ} {p q : ℕ} (W : View nodes 0) → In nodes 0 p → 1 ≤ p → q ≡ (tree_of W).end p → Next W p q
next-at W i l e = record { here = i; low = l; is = e }

abbrev seen_at : {nodes : List ℕ} {seen₀ seen : List Bool} {p : ℕ} (S : Seen nodes 1 seen₀) → Marks S.view.image (earlier (tree_of S.view) p) seen → Seen nodes p seen
seen_at S M = record { view = S.view; marks = M }

pub meets-requires : goal.meets-requires
meets-requires c =
    let S = c.requires.0 in
    let i = c.loop-item.invariant in
    let t = turn {t = c.next.new.self} i.0 c.in-Some.ensures.steps in
    let l = i.2 in
    (seen_at S (rw (← t.is) at (i.4 S)).1, c.requires.1, t.here, rw (← t.is) at l)

pub loop-item-init : goal.loop-item-init
loop-item-init c =
    let W = c.requires.0.view in
    let e = c.into_iter-item-iterator.ensures.into_iter_gives in
    let b = c.of-item-items.ensures in
    let s = at-first e b.0 in
    let S = span_below W c.requires.1 (ends-at 0 e b.1 W) in
    let o = S.order in
    (begun e b.0, S, omega arith, omega arith, λ S. rw s ((λ j a b. absurd (omega arith)), S.marks))

pub loop-item-preserved : goal.loop-item-preserved
loop-item-preserved c =
    let i = c.loop-item.invariant in
    let d = ends-at 0 c.into_iter-item-iterator.ensures.into_iter_gives c.of-item-items.ensures.1 in
    let t = turn {t = c.next.new.self} i.0 c.in-Some.ensures.steps in
    let l0 = i.2 in
    let l = rw (← t.is) at l0 in
    let n = λ (W : View c.args.nodes.now 0). next-at W t.here l (t.moved W) in
    let m = let W = c.requires.0.view in child-on W c.requires.1 (d W) l t.before (t.moved W) in
    let x = m.0 in (
      t.still,
      i.1,
      omega arith,
      m.1,
      λ S. let w = rw (← t.is) at (i.4 S) in let f = c.meets.ensures (seen_at S w.1) c.if-meets.false in (nothing-on S.view (n S.view) w.0 f.0, seen-on S.view l (n S.view) f.1),
    )

pub returns : goal.returns
unfolding group23
returns c = λ S e.
    let i = c.loop-item.invariant in
    let d = ends-at 0 c.into_iter-item-iterator.ensures.into_iter_gives c.of-item-items.ensures.1 in
    let g = ended i.0 c.in-None.ensures.steps.3 in
    let h = i.3 in
    sym (run-below (tree_of S.view) entry (rule23 (tree_of S.view)) 0 1 _ refl (d S.view)) ∙ run-empty _ 1 (c.into_iter-item-iterator.result.rest.end - 1) (λ j a b. (i.4 S).0 j a (omega arith))

pub returns-then-meets : goal.returns-then-meets
returns-then-meets c = λ S e. absurd (true≢false e)
