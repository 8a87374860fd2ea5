-- `rule40` meets its contract: a Call, or not.
use mathlib.Core.Path.{◌≡◌, ◌∙◌, sym}
use Rattle.nodes.specs.Shown.{View, tree_of}
use Rattle.resolve_calls.proofs.Laws.{callee, other-call, call-40}
use Rattle.resolve_calls.proofs.rule40.Goals as goal

pub returns-then-kind-ne-CALL : goal.returns-then-kind-ne-CALL
returns-then-kind-ne-CALL c = λ T. other-call (tree_of T.view) _ 40 _ (λ e. c.if-kind-ne-CALL.true (c.kind.ensures T.view ∙ e))

pub is_address-requires : goal.is_address-requires
is_address-requires c =
    let is_call : (W : View c.args.nodes.now c.args.base) → (tree_of W).kind c.args.p ≡ 43 = λ W. sym (c.kind.ensures W) ∙ c.if-kind-ne-CALL.false in
    let T = c.requires.0 in (T, callee T.view c.requires.1 (is_call T.view))

pub returns : goal.returns
returns c =
    let is_call : (W : View c.args.nodes.now c.args.base) → (tree_of W).kind c.args.p ≡ 43 = λ W. sym (c.kind.ensures W) ∙ c.if-kind-ne-CALL.false in
    λ T. call-40 (tree_of T.view) _ (is_call T.view) T.entry (c.is_address.ensures T)
