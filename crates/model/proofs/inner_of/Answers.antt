-- `inner_of` meets its contract: each test that fails rules out that a name is inside; once all are passed, it is the argument's.
use native.Mathlib.Omega.{arith}
use Prim.Native.Nat.{◌+◌, ◌<◌}
use mathlib.Core.Path.{◌≡◌, refl, sym, ◌∙◌}
use mathlib.Core.Bool.{true≢false}
use Rattle.rules.specs.Words.{Q_Asset}
use Rattle.rules.proofs.Reflect.{tells-same}
use Rattle.nodes.specs.Shown.{View, tree_of}
use Rattle.nodes.proofs.Shapes.{within}
use Rattle.model.proofs.Inner.{type_name, none_inside, one_inside}
use Rattle.model.proofs.inner_of.Goals as goal

pub returns-then-not-is_word : goal.returns-then-not-is_word
returns-then-not-is_word c = λ A. none_inside A (λ w k I. true≢false (sym ((tells-same _ Q_Asset).back I.is_asset) ∙ sym (c.is_word.ensures A.view _ A.numbered) ∙ c.if-not-is_word.true))

pub returns-then-end-y : goal.returns-then-end-y
returns-then-end-y c = λ A. none_inside A (λ w k I. let e = c.end.ensures A.view in let l = c.if-end-y.true in let h = I.has_argument in omega arith)

pub returns-then-kind-ne-TYPE-2 : goal.returns-then-kind-ne-TYPE-2
returns-then-kind-ne-TYPE-2 c = λ A. none_inside A (λ w k I. c.if-kind-ne-TYPE-2.true (c.kind-2.ensures A.view ∙ I.is_type))

pub returns : goal.returns
returns c =
    let is_type : (W : View c.args.nodes.now 0) → (tree_of W).kind c.args.y ≡ 11 = λ W. sym (c.kind.ensures W) ∙ c.if-kind-ne-TYPE.false in
    let more : (W : View c.args.nodes.now 0) → c.args.y + 2 < (tree_of W).end c.args.y = λ W. let e = c.end.ensures W in let h = c.if-end-y.false in omega arith in
    λ A.
    one_inside A c.requires.1 (is_type A.view)
    (record {
      is_asset = (tells-same _ Q_Asset).so (sym (c.is_word.ensures A.view _ A.numbered) ∙ c.if-not-is_word.false);
      has_argument = more A.view;
      is_type = sym (c.kind-2.ensures A.view) ∙ c.if-kind-ne-TYPE-2.false;
      is_named = refl;
    })

pub returns-then-kind-ne-TYPE : goal.returns-then-kind-ne-TYPE
returns-then-kind-ne-TYPE c = λ A. none_inside A (λ w k I. c.if-kind-ne-TYPE.true (c.kind.ensures A.view ∙ k))

pub is_word-requires : goal.is_word-requires
is_word-requires c =
    let is_type : (W : View c.args.nodes.now 0) → (tree_of W).kind c.args.y ≡ 11 = λ W. sym (c.kind.ensures W) ∙ c.if-kind-ne-TYPE.false in
    let W = c.requires.0.view in type_name W c.requires.1 (is_type W)

pub kind-requires-2 : goal.kind-requires-2
kind-requires-2 c =
    let more : (W : View c.args.nodes.now 0) → c.args.y + 2 < (tree_of W).end c.args.y = λ W. let e = c.end.ensures W in let h = c.if-end-y.false in omega arith in
    let W = c.requires.0.view in within W c.requires.1 (omega arith) (more W)
