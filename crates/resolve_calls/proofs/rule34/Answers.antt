-- `rule34` meets its contract: a Call of a word, of a method, or of neither.
use mathlib.Core.Path.{◌≡◌, ◌∙◌, sym}
use Rattle.rules.specs.Words.{builtins, methods}
use Rattle.nodes.specs.Shown.{View, tree_of}
use Rattle.resolve_calls.proofs.Laws.{callee, other-call, builtin-34, method-34}
use Rattle.resolve_calls.proofs.rule34.Goals as goal

pub returns-then-kind-ne-CALL : goal.returns-then-kind-ne-CALL
returns-then-kind-ne-CALL c = λ T. other-call (tree_of T.view) _ 34 _ (λ e. c.if-kind-ne-CALL.true (c.kind.ensures T.view ∙ e))

pub is_ident-requires : goal.is_ident-requires
is_ident-requires c =
    let is_call : (W : View c.args.nodes.now c.args.base) → (tree_of W).kind c.args.p ≡ 43 = λ W. sym (c.kind.ensures W) ∙ c.if-kind-ne-CALL.false in
    let W = c.requires.0.view in (W, callee W c.requires.1 (is_call W))

pub returns-then-is_ident : goal.returns-then-is_ident
returns-then-is_ident c =
    let is_call : (W : View c.args.nodes.now c.args.base) → (tree_of W).kind c.args.p ≡ 43 = λ W. sym (c.kind.ensures W) ∙ c.if-kind-ne-CALL.false in
    λ T. let W = T.view in builtin-34 (tree_of W) _ (is_call W) (sym (c.is_ident.ensures W builtins T.builtin_marks) ∙ c.if-is_ident.true)

pub returns : goal.returns
returns c =
    let is_call : (W : View c.args.nodes.now c.args.base) → (tree_of W).kind c.args.p ≡ 43 = λ W. sym (c.kind.ensures W) ∙ c.if-kind-ne-CALL.false in
    λ T. let W = T.view in method-34 (tree_of W) _ (is_call W) (sym (c.is_ident.ensures W builtins T.builtin_marks) ∙ c.if-is_ident.false) (c.is_field.ensures W methods T.method_marks)

pub is_field-requires : goal.is_field-requires
is_field-requires c =
    let is_call : (W : View c.args.nodes.now c.args.base) → (tree_of W).kind c.args.p ≡ 43 = λ W. sym (c.kind.ensures W) ∙ c.if-kind-ne-CALL.false in
    (let W = c.requires.0.view in (W, callee W c.requires.1 (is_call W)))
