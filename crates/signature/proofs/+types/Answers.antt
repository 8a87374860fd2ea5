-- `write_args` meets its contract: a walk from argument to argument; the text that remains is what is left of the arguments.
-- `write_type` meets its contract: what the type begins with and, where it has arguments, these in brackets.
use Rattle.std.proofs.Common.{ℕ, ◌+◌, ◌<◌, ◌≤◌, ◌≡◌, List, ◌++◌, Bool, true, sym, ap, ◌∙◌, arith}
use Rattle.rules.specs.Resolve.{comma, type_text}
use Rattle.nodes.specs.Shown.{View, In, tree_of}
use Rattle.nodes.specs.declared.walk.Children.{Children}
use Rattle.nodes.proofs.Iterated.{Turn, begun, at-first, ends-at, turn, ended}
use Rattle.signature.specs.Texts.{args_from, has_arguments, IsType, Arguing}
use Rattle.signature.proofs.Laws.{goes_refl, goes-trans, goes-as, goes_end, goes_on, room-comma, room-item, wrote_as, wrote_none, wrote_then, room_as, room-front, room-rest}
use Rattle.signature.proofs.Types.{ChildAt, args-done, type-none}
use Rattle.signature.proofs.Reading.{kinds-agree, bracketed, head-only, head-args, args-named, room-head, args-first, arg-in, arg-kind, arg-more, arg-next, arg-past}
use Rattle.signature.proofs.+types.Goals as goal

-- the argument p of the type y is at hand, where the walk stood at q
record AtHand (part : List ℕ) (b y q p : ℕ) : Type 0 where
  is : p ≡ q
  there : In part b y
  low : y + 2 ≤ p
  named : (W : View part b) → (tree_of W).kind y ≡ 11
  before : (W : View part b) → p < (tree_of W).end y
  first : (W : View part b) → ChildAt (tree_of W) y p

at-hand : {part names text : List ℕ} {b levels y at to p : ℕ} {s t : Children} → Arguing part b names text levels y at → y + 2 ≤ s.rest.at → ((W : View part b) → ChildAt (tree_of W) y s.rest.at) → ((W : View part b) → to ≡ (tree_of W).end y) → Turn part b to s p t → AtHand part b y s.rest.at p
at-hand P l f e t = let z = t.is in let g = t.before in record {
  is = z;
  there = P.there;
  low = omega arith;
  named = λ W. kinds-agree W P.texts.view P.there ∙ P.is_named;
  before = λ W. let d = e W in omega arith;
  first = rw z f;
}

module _ {part : List ℕ} {b y q p : ℕ} (a : AtHand part b y q p) (W : View part b) where
  place : In part b p
  place = arg-in W a.there (a.named W) a.low (a.before W)

  kind-there : IsType (tree_of W) p
  kind-there = arg-kind W a.there (a.named W) a.low (a.before W) (a.first W)

  -- what remained begins with it, and the walk goes on past it
  module _ {next : ℕ} (d : (W : View part b) → next ≡ (tree_of W).end p) where
    more : (levels : ℕ) → args_from levels (tree_of W) y q ≡ comma (y + 2) p ++ (type_text levels (tree_of W) p ++ args_from levels (tree_of W) y next)
    more levels = ap (λ (x : ℕ). args_from levels (tree_of W) y x) (sym a.is) ∙ arg-more W a.there (a.named W) a.low (a.before W) (a.first W) (d W) levels

    moved : (p < next) × (next ≤ (tree_of W).end y)
    moved = arg-past W a.there (a.named W) a.low (a.before W) (a.first W) (d W)

    then-at : ChildAt (tree_of W) y next
    then-at = arg-next W a.there (a.named W) a.low (a.before W) (a.first W) (d W)

pub write_args-loop-argument-init : goal.write_args-loop-argument-init
write_args-loop-argument-init t c =
    let P = c.requires in
    let e = c.into_iter-argument-iterator.ensures.into_iter_gives in
    let b = c.from-argument-items.ensures in
    let s = at-first e b.0 in
    let d = ends-at c.args.y e b.1 P.texts.view in
    let f = (args-first P.texts.view P.there P.is_named).1 in
    (begun e b.0, omega arith, omega arith, rw s (λ W. (args-first W P.there (kinds-agree W P.texts.view P.there ∙ P.is_named)).0), λ T. rw s goes_refl)

pub write_args-put_comma-o-requires : goal.write_args-put_comma-o-requires
write_args-put_comma-o-requires t c =
    let P = c.requires in
    let i = c.loop-argument.invariant in
    let d = ends-at c.args.y c.into_iter-argument-iterator.ensures.into_iter_gives c.from-argument-items.ensures.1 in
    let n = turn {t = c.next.new.self} i.0 c.in-Some.ensures.steps in
    let x = c.in-Some.argument in
    let tree = tree_of P.texts.view in
    room-comma (i.4 P.texts) (comma (c.args.y + 2) x) (type_text c.args.levels tree x) (args_from c.args.levels tree c.args.y c.next.new.self.rest.at) (more (at-hand P i.1 i.3 d n) P.texts.view n.moved c.args.levels) P.room

pub write_args-write_type-o-requires : goal.write_args-write_type-o-requires
write_args-write_type-o-requires t c =
    let P = c.requires in
    let W = P.texts.view in
    let i = c.loop-argument.invariant in
    let d = ends-at c.args.y c.into_iter-argument-iterator.ensures.into_iter_gives c.from-argument-items.ensures.1 in
    let n = turn {t = c.next.new.self} i.0 c.in-Some.ensures.steps in
    let a = at-hand P i.1 i.3 d n in
    (omega arith, record { texts = P.texts; there = n.here; is_type = kind-there a W; room = room-item (i.4 P.texts) _ _ _ (more a W n.moved c.args.levels) P.room c.put_comma-o.ensures })

pub write_args-loop-argument-preserved : goal.write_args-loop-argument-preserved
write_args-loop-argument-preserved t c =
    let P = c.requires in
    let i = c.loop-argument.invariant in
    let d = ends-at c.args.y c.into_iter-argument-iterator.ensures.into_iter_gives c.from-argument-items.ensures.1 in
    let n = turn {t = c.next.new.self} i.0 c.in-Some.ensures.steps in
    let a = at-hand P i.1 i.3 d n in
    let low = a.low in
    let m = moved a P.texts.view n.moved in
    let e = d P.texts.view in (
      n.still,
      omega arith,
      omega arith,
      (λ W. then-at a W n.moved),
      λ T. goes_on (i.4 T) _ _ _ (more a T.view n.moved c.args.levels) c.put_comma-o.ensures (c.write_type-o.ensures T),
    )

pub write_args-returns : goal.write_args-returns
write_args-returns t c = λ T.
    let i = c.loop-argument.invariant in
    let e = ends-at c.args.y c.into_iter-argument-iterator.ensures.into_iter_gives c.from-argument-items.ensures.1 T.view in
    let g = ended i.0 c.in-None.ensures.steps.3 in
    goes_end (goes-trans (i.4 T) (goes-as (args-done (tree_of T.view) _ _ c.loop-argument.argument-iterator.rest.at (omega arith))))

pub write_type-returns-then-levels-eq0 : goal.write_type-returns-then-levels-eq0
write_type-returns-then-levels-eq0 t c = λ T.
    wrote_none (sym (ap (λ (l : ℕ). type_text l (tree_of T.view) c.args.y) c.if-levels-eq0.true ∙ type-none (tree_of T.view) c.args.y))

pub write_type-put_head-after_head-requires : goal.write_type-put_head-after_head-requires
write_type-put_head-after_head-requires t c =
    let P = c.requires in
    record { texts = P.texts; there = P.there; is_type = P.is_type; room = room-head (tree_of P.texts.view) c.args.y c.args.levels (omega arith) P.is_type P.room }

pub write_type-returns-then-not-has_arguments : goal.write_type-returns-then-not-has_arguments
write_type-returns-then-not-has_arguments t c = λ T.
    let P = c.requires in
    let k = kinds-agree T.view P.texts.view P.there in
    let i = P.is_type in
    let a = i.0 in
    let b = i.1 in
    wrote_as (sym (head-only (tree_of T.view) c.args.y c.args.levels (omega arith) (omega arith, omega arith) (sym (c.has_arguments.ensures T.view) ∙ c.if-not-has_arguments.true))) (c.put_head-after_head.ensures T)

-- a type with arguments: its text is its Name and, in brackets, these
spelt : {part : List ℕ} {b : ℕ} {r : Bool} (y levels : ℕ) (z : 0 < levels) (e : (W : View part b) → r ≡ has_arguments (tree_of W) y) (h : r ≡ true) (W : View part b) → type_text levels (tree_of W) y ≡ bracketed levels (tree_of W) y
spelt y levels z e h W = head-args (tree_of W) y levels z (sym (e W) ∙ h)

pub write_type-put-after_open-requires : goal.write_type-put-after_open-requires
write_type-put-after_open-requires t c =
    let P = c.requires in
    room-front _ (room-rest _ (room_as (spelt c.args.y c.args.levels (omega arith) c.has_arguments.ensures c.if-not-has_arguments.false P.texts.view) P.room) (c.put_head-after_head.ensures P.texts))

pub write_type-write_args-after_args-requires : goal.write_type-write_args-after_args-requires
write_type-write_args-after_args-requires t c =
    let P = c.requires in
    let s = room_as (spelt c.args.y c.args.levels (omega arith) c.has_arguments.ensures c.if-not-has_arguments.false P.texts.view) P.room in (
      omega arith,
      record {
        texts = P.texts;
        there = P.there;
        is_named = (args-named _ _ (sym (c.has_arguments.ensures P.texts.view) ∙ c.if-not-has_arguments.false)).0;
        room = room-front _ (room-rest _ (room-rest _ s (c.put_head-after_head.ensures P.texts)) c.put-after_open.ensures);
      },
    )

pub write_type-put-requires : goal.write_type-put-requires
write_type-put-requires t c =
    let P = c.requires in
    let s = room_as (spelt c.args.y c.args.levels (omega arith) c.has_arguments.ensures c.if-not-has_arguments.false P.texts.view) P.room in
    room-rest _ (room-rest _ (room-rest _ s (c.put_head-after_head.ensures P.texts)) c.put-after_open.ensures) (c.write_args-after_args.ensures P.texts)

pub write_type-returns : goal.write_type-returns
write_type-returns t c = λ T.
    wrote_as (sym (spelt c.args.y c.args.levels (omega arith) c.has_arguments.ensures c.if-not-has_arguments.false T.view))
    (wrote_then (c.put_head-after_head.ensures T) (wrote_then c.put-after_open.ensures (wrote_then (c.write_args-after_args.ensures T) c.put.ensures)))
