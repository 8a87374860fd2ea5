-- `write_params` meets its contract: a walk from parameter to parameter; the text that remains is what is left of the parameters.
use native.Mathlib.Omega.{arith}
use Prim.Native.Nat.{ℕ, ◌+◌, ◌<◌, ◌≤◌}
use mathlib.Core.Path.{◌≡◌, sym, ap, ◌∙◌}
use mathlib.Core.List.{List, ◌++◌}
use Rattle.rules.specs.Resolve.{comma, type_text}
use Rattle.nodes.specs.Shown.{View, In, tree_of}
use Rattle.nodes.specs.declared.walk.Children.{Children}
use Rattle.nodes.proofs.Iterated.{Turn, begun, at-first, ends-at, turn, ended}
use Rattle.signature.specs.Texts.{params_from}
use Rattle.signature.proofs.Laws.{goes_refl, goes-trans, goes-as, goes_end, goes_on, room-comma, room-item}
use Rattle.signature.proofs.Reading.{kinds-agree, params-from, params_none, param-type-in, param-more, param-next, param-past}
use Rattle.signature.proofs.write_params.Goals as goal

-- the child p of the entry e is at hand, where the walk stood at q
record AtHand (part : List ℕ) (b e q p : ℕ) : Type 0 where
  is : p ≡ q
  there : In part b e
  low : e + 2 ≤ p
  before : (W : View part b) → p < (tree_of W).end e

at-hand : {part : List ℕ} {b e to p : ℕ} {s t : Children} → In part b e → e + 2 ≤ s.rest.at → ((W : View part b) → to ≡ (tree_of W).end e) → Turn part b to s p t → AtHand part b e s.rest.at p
at-hand i l d t = let z = t.is in let g = t.before in record { is = z; there = i; low = omega arith; before = λ W. let x = d W in omega arith }

-- it is a parameter, so what remained begins with its type
more : {part : List ℕ} {b e q p next : ℕ} → AtHand part b e q p → (W : View part b) → (tree_of W).kind p ≡ 10 → ((W : View part b) → next ≡ (tree_of W).end p)
    → params_from (tree_of W) e q ≡ comma (e + 2) p ++ (type_text 64 (tree_of W) (p + 2) ++ params_from (tree_of W) e next)
more {e = e} a W k n = ap (λ (x : ℕ). params_from (tree_of W) e x) (sym a.is) ∙ param-more W a.there a.low (a.before W) k (n W)

pub loop-param-init : goal.loop-param-init
loop-param-init c =
    let P = c.requires in
    let e = c.into_iter-param-iterator.ensures.into_iter_gives in
    let b = c.from-param-items.ensures in
    let s = at-first e b.0 in
    let d = ends-at c.args.e e b.1 P.texts.view in
    let f = (params-from P.texts.view P.there P.is_entry).1 in
    (begun e b.0, omega arith, omega arith, rw s (λ W. (params-from W P.there (kinds-agree W P.texts.view P.there ∙ P.is_entry)).0), λ T. rw s goes_refl)

pub returns-then-kind-ne10 : goal.returns-then-kind-ne10
returns-then-kind-ne10 c = λ T.
    let P = c.requires in
    let W = T.view in
    let l = c.loop-param in
    let i = l.invariant in
    let z = (turn {t = c.next.new.self} i.0 c.in-Some.ensures.steps).is in
    goes_end (goes-trans (i.4 T) (goes-as (params_none W P.there (kinds-agree W P.texts.view P.there ∙ P.is_entry) l.param-iterator.rest.at (i.3 W) (λ h k. c.if-kind-ne10.true (c.kind.ensures W ∙ ap (tree_of W).kind z ∙ k)))))

pub put_comma-o-requires : goal.put_comma-o-requires
put_comma-o-requires c =
    let P = c.requires in
    let W = P.texts.view in
    let i = c.loop-param.invariant in
    let d = ends-at c.args.e c.into_iter-param-iterator.ensures.into_iter_gives c.from-param-items.ensures.1 in
    let n = turn {t = c.next.new.self} i.0 c.in-Some.ensures.steps in
    let x = c.in-Some.param in
    room-comma (i.4 P.texts) (comma (c.args.e + 2) x) (type_text 64 (tree_of W) (x + 2)) (params_from (tree_of W) c.args.e c.next.new.self.rest.at) (more (at-hand P.there i.1 d n) W (sym (c.kind.ensures W) ∙ c.if-kind-ne10.false) n.moved) P.room

pub write_type-o-requires : goal.write_type-o-requires
write_type-o-requires c =
    let P = c.requires in
    let W = P.texts.view in
    let i = c.loop-param.invariant in
    let d = ends-at c.args.e c.into_iter-param-iterator.ensures.into_iter_gives c.from-param-items.ensures.1 in
    let n = turn {t = c.next.new.self} i.0 c.in-Some.ensures.steps in
    let a = at-hand P.there i.1 d n in
    let k : (tree_of W).kind c.in-Some.param ≡ 10 = sym (c.kind.ensures W) ∙ c.if-kind-ne10.false in
    let y = param-type-in W P.there a.low (a.before W) k in
    record { texts = P.texts; there = y.0; is_type = y.1; room = room-item (i.4 P.texts) _ _ _ (more a W k n.moved) P.room c.put_comma-o.ensures }

pub loop-param-preserved : goal.loop-param-preserved
loop-param-preserved c =
    let P = c.requires in
    let i = c.loop-param.invariant in
    let d = ends-at c.args.e c.into_iter-param-iterator.ensures.into_iter_gives c.from-param-items.ensures.1 in
    let n = turn {t = c.next.new.self} i.0 c.in-Some.ensures.steps in
    let a = at-hand P.there i.1 d n in
    let is-param : (W : View c.args.nodes.now c.args.base) → (tree_of W).kind c.in-Some.param ≡ 10 = λ W. sym (c.kind.ensures W) ∙ c.if-kind-ne10.false in
    let W = P.texts.view in
    let low = a.low in
    let m = param-past W P.there low (a.before W) (is-param W) (n.moved W) in
    let e = d W in (
      n.still,
      omega arith,
      omega arith,
      (λ X. param-next X P.there low (a.before X) (is-param X) (n.moved X) (rw (← n.is) at (i.3 X))),
      λ T. goes_on (i.4 T) _ _ _ (more a T.view (is-param T.view) n.moved) c.put_comma-o.ensures (c.write_type-o.ensures T),
    )

pub returns : goal.returns
returns c = λ T.
    let P = c.requires in
    let W = T.view in
    let l = c.loop-param in
    let i = l.invariant in
    let d = ends-at c.args.e c.into_iter-param-iterator.ensures.into_iter_gives c.from-param-items.ensures.1 W in
    let g = ended i.0 c.in-None.ensures.steps.3 in
    goes_end (goes-trans (i.4 T) (goes-as (params_none W P.there (kinds-agree W P.texts.view P.there ∙ P.is_entry) l.param-iterator.rest.at (i.3 W) (λ h k. absurd (omega arith)))))
