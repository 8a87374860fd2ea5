-- `entries` meets its contract: a walk from item to item, with the entries so far in the tables.
use borrow.Author.Rules.{rules}
use native.Mathlib.Omega.{arith}
use Prim.Native.Nat.{ℕ, ◌≤◌}
use mathlib.Core.Path.{◌≡◌, refl}
use mathlib.Core.List.{List}
use Rattle.rules.specs.Tree.{entry}
use Rattle.rules.specs.Resolve.{rule23, group23}
use Rattle.records.proofs.Laws.{added-by}
use Rattle.records.proofs.Sweep.{keep-none, run-below, sweep-on, sweep-starts, swept}
use Rattle.nodes.specs.Shown.{View, In, tree_of}
use Rattle.nodes.proofs.Spans.{child-on, span_below}
use Rattle.nodes.proofs.Iterated.{begun, at-first, ends-at, turn, ended}
use Rattle.resolve_overloads.specs.declared.Kept.{Kept}
use Rattle.resolve_overloads.specs.Keys.{Chained, Chains}
use Rattle.signature.proofs.Sought.{Next, between}
use Rattle.resolve_overloads.proofs.Sought.{chains-on}
use Rattle.resolve_overloads.proofs.entries.Goals as goal

-- what the item is lent
next-at : {nodes : List ℕ} {p q : ℕ} (W : View nodes 0) → In nodes 0 p → 1 ≤ p → q ≡ (tree_of W).end p → Next W p q
next-at W i l e = record { here = i; low = l; is = e }

abbrev chained-at : {nodes : List ℕ} {kept₀ kept : Kept} {p q : ℕ} → p ≡ q → (C : Chained nodes 1 kept₀) → Chains C.view.image q kept.heads kept.links kept.keys → Chained nodes p kept
chained-at e C N = record { view = C.view; chains = rw e N }

pub entry-total-requires : goal.entry-total-requires
entry-total-requires c =
    let C = c.requires.0 in
    let i = c.loop-item.invariant in
    let t = turn {t = c.next.new.self} i.0 c.in-Some.ensures.steps in
    let l = i.2.low in
    (chained-at t.is C (i.3 C), t.here, rw (← t.is) at l, search rules)

pub loop-item-init : goal.loop-item-init
loop-item-init c =
    let W = c.requires.0.view in
    let e = c.into_iter-item-iterator.ensures.into_iter_gives in
    let b = c.of-item-items.ensures in
    let S = span_below W c.requires.1 (ends-at 0 e b.1 W) in
    (begun e b.0, S, rw (at-first e b.0) (sweep-starts S.order), λ C. rw (at-first e b.0) C.chains)

pub loop-item-preserved : goal.loop-item-preserved
loop-item-preserved c =
    let i = c.loop-item.invariant in
    let d = ends-at 0 c.into_iter-item-iterator.ensures.into_iter_gives c.of-item-items.ensures.1 in
    let t = turn {t = c.next.new.self} i.0 c.in-Some.ensures.steps in
    let w = rw (← t.is) at i.2 in
    let n = λ (W : View c.args.nodes.now 0). next-at W t.here w.low (t.moved W) in
    let m = let W = c.requires.0.view in child-on W c.requires.1 (d W) w.low t.before (t.moved W) in
    let r = c.entry-total.ensures in
    let now = λ (C : Chained c.args.nodes.now 1 c.args.kept.now). chained-at {kept = c.loop-item.kept} t.is C (i.3 C) in (
      t.still,
      i.1,
      sweep-on w (added-by now (λ C. refl) r.adds) m.0 m.1 (λ C j a z. keep-none _ j (between C.view (n C.view) j a z)),
      λ C. chains-on C.view (n C.view) (r.chaining (now C)),
    )

pub returns : goal.returns
unfolding group23
returns c =
    let i = c.loop-item.invariant in
    let d = ends-at 0 c.into_iter-item-iterator.ensures.into_iter_gives c.of-item-items.ensures.1 in
    swept i.2 (ended i.0 c.in-None.ensures.steps.3) (λ C. run-below (tree_of C.view) entry (rule23 (tree_of C.view)) 0 1 _ refl (d C.view)) (let u = i.1.under in omega arith)
