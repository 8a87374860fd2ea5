-- `first_signed` meets its contract: a walk from the last entry of a slot to the first.
use native.Mathlib.Omega.{arith}
use Prim.Native.Nat.{ℕ, ◌<◌}
use mathlib.Core.Path.{sym, ap, ◌∙◌}
use lib.ListN.{get_or}
use Rattle.resolve_overloads.specs.Keys.{Sought, slot}
use Rattle.resolve_overloads.proofs.Chain.{Seeking, seek-start, seek-on, slot-low}
use Rattle.resolve_overloads.proofs.Sought.{likely, sought-found, sought-none}
use Rattle.resolve_overloads.proofs.Kept.first_signed.Goals as goal

pub loop-g-init : goal.loop-g-init
loop-g-init c =
    let started : (S : Sought c.args.nodes.now c.args.e c.args.key c.args.self.now) → (c.from-g.result < c.args.e) × Seeking S.it.view.image c.args.e (slot c.args.key) c.from-g.result
    = λ S. seek-start S.chains (slot-low c.args.key) S.it.low (c.from-g.ensures ∙ ap (λ (x : ℕ). get_or c.args.self.now.heads x 0) c.slot-at.ensures.0)
    in
    ((started c.requires).0, λ S. (started S).1)

pub is_signed-requires : goal.is_signed-requires
is_signed-requires c = let i = c.loop-g.invariant in likely c.requires (i.1 c.requires) c.loop-g-test.true i.0

pub returns-then-is_signed : goal.returns-then-is_signed
returns-then-is_signed c =
    let i = c.loop-g.invariant in
    let l = i.0 in
    let h = c.loop-g-test.true in
    (omega arith, λ S. sought-found S (i.1 S) h l (sym (c.is_signed.ensures (likely S (i.1 S) h l)) ∙ c.if-is_signed.true))

pub loop-g-smaller : goal.loop-g-smaller
loop-g-smaller c =
    let S = c.requires in
    let i = c.loop-g.invariant in
    let l = i.0 in
    let h = c.loop-g-test.true in
    (seek-on S.chains (i.1 S) h l c.from-g-in-loop-g.ensures (sym (c.is_signed.ensures (likely S (i.1 S) h l)) ∙ c.if-is_signed.false)).0

pub loop-g-preserved : goal.loop-g-preserved
loop-g-preserved c =
    let i = c.loop-g.invariant in
    let l = i.0 in
    let h = c.loop-g-test.true in
    let moved : (S : Sought c.args.nodes.now c.args.e c.args.key c.args.self.now) → (c.from-g-in-loop-g.result < c.loop-g.g) × Seeking S.it.view.image c.args.e (slot c.args.key) c.from-g-in-loop-g.result
    = λ S. seek-on S.chains (i.1 S) h l c.from-g-in-loop-g.ensures (sym (c.is_signed.ensures (likely S (i.1 S) h l)) ∙ c.if-is_signed.false)
    in
    let m = (moved c.requires).0 in
    (omega arith, λ S. (moved S).1)

pub returns : goal.returns
returns c = (omega arith, λ S. sought-none S (c.loop-g.invariant.1 S) (let g = c.loop-g-test.false in omega arith))
