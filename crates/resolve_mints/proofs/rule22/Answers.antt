-- `rule22` meets its contract: at each return, what the tests passed so far say of the rule.
use mathlib.Core.Path.{◌≡◌, refl, ◌∙◌, sym}
use mathlib.Core.Logic.{inr}
use Prim.Native.Nat.{◌+◌}
use native.Mathlib.Omega.{arith}
use Rattle.rules.specs.Sweep.{has}
use Rattle.rules.specs.Words.{mint_asset}
use Rattle.rules.specs.Vocabulary.{rec}
use Rattle.rules.specs.Resolve.{rule22}
use Rattle.records.proofs.Sweep.{asks-other}
use Rattle.nodes.specs.Shown.{View, In, tree_of}
use Rattle.nodes.proofs.Shapes.{first-in}
use Rattle.resolve_mints.proofs.Laws.{other-22, ident-22}
use Rattle.resolve_mints.proofs.rule22.Goals as goal

pub returns-then-kind-ne-CALL : goal.returns-then-kind-ne-CALL
returns-then-kind-ne-CALL c = λ T. asks-other (rule22 (tree_of T.view)) c.args.p (rec 22 c.args.p 0) (λ e. c.if-kind-ne-CALL.true (c.kind.ensures T.view ∙ e))

pub returns-then-kind-ne-IDENT : goal.returns-then-kind-ne-IDENT
returns-then-kind-ne-IDENT c =
    let is_call : (W : View c.args.nodes.now c.args.base) → (tree_of W).kind c.args.p ≡ 43 = λ W. sym (c.kind.ensures W) ∙ c.if-kind-ne-CALL.false in
    λ T. let W = T.view in other-22 (tree_of W) _ (is_call W) (λ e. c.if-kind-ne-IDENT.true (c.kind-2.ensures W ∙ e))

pub is_word-requires : goal.is_word-requires
unfolding has
is_word-requires c =
    let is_call : (W : View c.args.nodes.now c.args.base) → (tree_of W).kind c.args.p ≡ 43 = λ W. sym (c.kind.ensures W) ∙ c.if-kind-ne-CALL.false in
    let has-callee : In c.args.nodes.now c.args.base (c.args.p + 1) = let W = c.requires.0.view in first-in W c.requires.1 43 (is_call W) (omega arith) refl in
    let is-ident : (W : View c.args.nodes.now c.args.base) → (tree_of W).kind (c.args.p + 1) ≡ 35 = λ W. sym (c.kind-2.ensures W) ∙ c.if-kind-ne-IDENT.false in
    let W = c.requires.0.view in record { view = W; here = has-callee; carries = inr (is-ident W) }

pub returns : goal.returns
returns c =
    let is_call : (W : View c.args.nodes.now c.args.base) → (tree_of W).kind c.args.p ≡ 43 = λ W. sym (c.kind.ensures W) ∙ c.if-kind-ne-CALL.false in
    let is-ident : (W : View c.args.nodes.now c.args.base) → (tree_of W).kind (c.args.p + 1) ≡ 35 = λ W. sym (c.kind-2.ensures W) ∙ c.if-kind-ne-IDENT.false in
    λ T. let W = T.view in ident-22 (tree_of W) _ (is_call W) (is-ident W) (c.is_word.ensures W mint_asset T.mint_number)

pub kind-requires-2 : goal.kind-requires-2
unfolding has
kind-requires-2 c =
    let is_call : (W : View c.args.nodes.now c.args.base) → (tree_of W).kind c.args.p ≡ 43 = λ W. sym (c.kind.ensures W) ∙ c.if-kind-ne-CALL.false in
    let has-callee : In c.args.nodes.now c.args.base (c.args.p + 1) = let W = c.requires.0.view in first-in W c.requires.1 43 (is_call W) (omega arith) refl in
    has-callee
