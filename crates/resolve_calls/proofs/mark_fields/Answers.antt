-- `mark_fields` meets its contract: a walk over items and fields in which a later FieldDecl replaces an earlier one's mark.
use native.Mathlib.Omega.{arith}
use mathlib.Core.Path.{refl, sym}
use Rattle.rules.specs.Sweep.{has}
use Rattle.rules.specs.Tree.{field, declarations}
use Rattle.nodes.proofs.Names.{marks-as}
use Rattle.nodes.proofs.Shapes.{all_in}
use Rattle.nodes.proofs.Walks.{Next, declarations-on, next_of}
use Rattle.nodes.proofs.Walking.{walk-starts, walk-on}
use Rattle.nodes.proofs.Declared.{begun, at-first, ends-at, turn, ended}
use Rattle.resolve_calls.specs.Called.{AddressTyping}
use Rattle.resolve_calls.proofs.Types.{no_field}
use Rattle.resolve_calls.proofs.Lasts.{typed-done}
use Rattle.resolve_calls.proofs.mark_fields.Goals as goal

pub returns-then-address-lt1 : goal.returns-then-address-lt1
returns-then-address-lt1 c = λ T M. marks-as (λ w. sym (no_field T c.if-address-lt1.true c.requires.1 w)) M

pub loop-p-init : goal.loop-p-init
loop-p-init c =
    let e = c.into_iter-p-iterator.ensures.into_iter_gives in
    let b = c.of-p-items.ensures in
    (begun e b, rw (at-first e b) (omega arith), λ T. rw (at-first e b) (walk-starts tt c.requires.1 (ends-at e b) (λ v i. refl)))

pub loop-p-preserved : goal.loop-p-preserved
unfolding all_in has
loop-p-preserved c =
    let P = c.requires in
    let i = c.loop-p.invariant in
    let t = turn {t = c.next.new.self} i.0 c.in-Some.ensures.steps in
    let l = rw (← t.is) at i.1 in
    let d = ends-at c.into_iter-p-iterator.ensures.into_iter_gives c.of-p-items.ensures in
    let next : (T : AddressTyping c.args.nodes.now c.args.address) → Next T.view field c.in-Some.p c.next.new.self.at = λ T. next_of field declarations refl (declarations-on T.view t.here l (t.moved T.view)) in
    let m = (next P.0).after in
    (t.still, omega arith, λ T. walk-on tt P.1 d (rw (← t.is) at (i.2 T)) t.before (λ _. next T) (λ _. c.mark_field.ensures T))

pub returns : goal.returns
returns c = typed-done (ends-at c.into_iter-p-iterator.ensures.into_iter_gives c.of-p-items.ensures) c.loop-p.invariant.2 (ended c.loop-p.invariant.0 c.in-None.ensures.steps.2)
