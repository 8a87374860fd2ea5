-- `walk` meets its contract: `Walking` holds at each position, and a step leaves less of the walk.
use native.Mathlib.Omega.{arith}
use Prim.Native.Nat.{◌<◌}
use mathlib.Core.Path.{◌≡◌, sym, ap, ◌∙◌}
use mathlib.Core.Bool.{true}
use Rattle.image.specs.Node.{kind_of}
use Rattle.image.specs.Digits.{kind_facts}
use Rattle.steps.specs.Steps.{child_ok}
use Rattle.admission.proofs.Walking.{begins, bounds, wanting, ascends, finished, inner, nearer, unfit, roomy, own-small, steps}
use Rattle.admission.proofs.walk.Goals as goal

pub loop-p-init : goal.loop-p-init
loop-p-init c = let p = c.requires in rw c.start-p.ensures (begins _ _ _ _ _ p.1 p.7 p.8)

pub returns-then-p-lt-MAY_END : goal.returns-then-p-lt-MAY_END
returns-then-p-lt-MAY_END c = let t = wanting _ _ _ _ _ c.loop-p.invariant c.if-p.true c.if-p-lt-MAY_END.true in record { value = t.0; false_after = t.1 }

pub returns-then-p-lt1 : goal.returns-then-p-lt1
returns-then-p-lt1 c = let t = finished _ _ _ _ _ c.loop-p.invariant c.if-p.true c.if-p-lt-MAY_END.false c.if-p-lt1.true _ c.check_depth.ensures in record { value = t.0; false_after = t.1 }

pub up-p-requires : goal.up-p-requires
up-p-requires c =
    let b = bounds _ _ _ _ _ c.loop-p.invariant in
    let b0 = b.0 in
    let b1 = b.1 in
    let b2 = b.2 in
    let few = c.requires.0 in
    (c.if-p-lt1.false, omega arith)

pub loop-p-smaller-then-p : goal.loop-p-smaller-then-p
loop-p-smaller-then-p c = let z = c.if-p-lt1.false in rw c.up-p.ensures (omega arith)

pub loop-p-preserved-then-p : goal.loop-p-preserved-then-p
loop-p-preserved-then-p c = rw c.up-p.ensures (ascends _ _ _ _ _ c.loop-p.invariant c.if-p.true c.if-p-lt-MAY_END.false c.if-p-lt1.false)

pub child_ok-requires : goal.child_ok-requires
child_ok-requires c =
    let inside : c.loop-p.p.at < c.args.parts.now.n = inner _ _ _ _ _ c.loop-p.invariant c.if-p.false in
    let known : c.facts-of.result ≡ kind_facts (kind_of c.args.parts.now.nodes.now c.loop-p.p.at) = c.facts-of.ensures ∙ ap kind_facts c.kind.ensures.0 in
    let p = c.requires in
    let h = inside in
    (omega arith, p.3, p.4, known)

pub returns-then-not-child_ok : goal.returns-then-not-child_ok
returns-then-not-child_ok c = let t = unfit _ _ _ _ _ c.loop-p.invariant c.if-p.false (sym c.if-not-child_ok.true ∙ c.child_ok.ensures) in record { value = t.0; false_after = t.1 }

pub mark-requires : goal.mark-requires
mark-requires c =
    let inside : c.loop-p.p.at < c.args.parts.now.n = inner _ _ _ _ _ c.loop-p.invariant c.if-p.false in
    let fit : let a = c.args in let p = c.loop-p.p in true ≡ child_ok a.parts.now.nodes.now a.parts.now.names.now a.parts.now.text.now a.parts.now.m p.end p.at = sym c.if-not-child_ok.false ∙ c.child_ok.ensures in
    let h = inside in
    (omega arith, own-small _ _ _ _ _ c.loop-p.invariant c.if-p.false c.requires.0 c.requires.1 (fit))

pub next-after-requires : goal.next-after-requires
next-after-requires c = (c.loop-p.invariant.pending.small, omega arith, c.requires.6)

pub on-p-requires : goal.on-p-requires
on-p-requires c = roomy _ _ _ _ _ c.loop-p.invariant c.if-p.false c.requires.0 _ c.next-after.ensures.1

pub loop-p-smaller : goal.loop-p-smaller
loop-p-smaller c = nearer _ _ _ _ _ c.loop-p.invariant c.if-p.false c.on-p.ensures

pub loop-p-preserved : goal.loop-p-preserved
loop-p-preserved c =
    let known : c.facts-of.result ≡ kind_facts (kind_of c.args.parts.now.nodes.now c.loop-p.p.at) = c.facts-of.ensures ∙ ap kind_facts c.kind.ensures.0 in
    let fit : let a = c.args in let p = c.loop-p.p in true ≡ child_ok a.parts.now.nodes.now a.parts.now.names.now a.parts.now.text.now a.parts.now.m p.end p.at = sym c.if-not-child_ok.false ∙ c.child_ok.ensures in
    let n = c.next-after.ensures in
    steps _ _ _ _ _ c.loop-p.invariant c.if-p.false c.requires.0 c.requires.1 (fit) _ (known) _ n.0 n.1 _ c.end.ensures.0 c.mark.ensures c.on-p.ensures

pub kind-requires : goal.kind-requires
kind-requires c =
    let inside : c.loop-p.p.at < c.args.parts.now.n = inner _ _ _ _ _ c.loop-p.invariant c.if-p.false in
    let h = inside in omega arith

pub facts-of-requires : goal.facts-of-requires
facts-of-requires c = c.requires.5

pub end-requires : goal.end-requires
end-requires c =
    let inside : c.loop-p.p.at < c.args.parts.now.n = inner _ _ _ _ _ c.loop-p.invariant c.if-p.false in
    let h = inside in omega arith
