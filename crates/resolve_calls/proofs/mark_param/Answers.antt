-- `mark_param` meets its contract: a Param of type `Q_Address`, of another, or another node.
use mathlib.Core.Path.{◌≡◌, ◌∙◌, sym}
use Prim.Native.Nat.{◌+◌}
use Rattle.rules.specs.Words.{Q_Address}
use Rattle.nodes.specs.Shown.{View, Worded, tree_of}
use Rattle.resolve_calls.proofs.Types.{param-words, param-other, param-untyped, param_marks}
use Rattle.resolve_calls.proofs.mark_param.Goals as goal

pub returns-then-kind-ne-PARAM : goal.returns-then-kind-ne-PARAM
returns-then-kind-ne-PARAM c = λ T P M. param-other (tree_of T.view) _ P _ (λ e. c.if-kind-ne-PARAM.true (c.kind.ensures T.view ∙ e)) M

pub returns-then-is_word : goal.returns-then-is_word
returns-then-is_word c =
    let is-param : (W : View c.args.nodes.now 0) → (tree_of W).kind c.args.p ≡ 10 = λ W. sym (c.kind.ensures W) ∙ c.if-kind-ne-PARAM.false in
    λ T P M. let W = T.view in param_marks (tree_of W) _ P _ (is-param W) (sym (c.is_word.ensures W Q_Address T.address_number) ∙ c.if-is_word.true) (c.mark.ensures W P M)

pub returns-else-is_word : goal.returns-else-is_word
returns-else-is_word c =
    let is-param : (W : View c.args.nodes.now 0) → (tree_of W).kind c.args.p ≡ 10 = λ W. sym (c.kind.ensures W) ∙ c.if-kind-ne-PARAM.false in
    λ T P M. let W = T.view in param-untyped (tree_of W) _ P _ (is-param W) (sym (c.is_word.ensures W Q_Address T.address_number) ∙ c.if-is_word.false) M

pub is_word-requires : goal.is_word-requires
is_word-requires c =
    let is-param : (W : View c.args.nodes.now 0) → (tree_of W).kind c.args.p ≡ 10 = λ W. sym (c.kind.ensures W) ∙ c.if-kind-ne-PARAM.false in
    let words : Worded c.args.nodes.now 0 (c.args.p + 1) × Worded c.args.nodes.now 0 (c.args.p + 3) = let W = c.requires.0.view in param-words W c.requires.1 (is-param W) in
    (words).1

pub mark-requires : goal.mark-requires
mark-requires c =
    let is-param : (W : View c.args.nodes.now 0) → (tree_of W).kind c.args.p ≡ 10 = λ W. sym (c.kind.ensures W) ∙ c.if-kind-ne-PARAM.false in
    let words : Worded c.args.nodes.now 0 (c.args.p + 1) × Worded c.args.nodes.now 0 (c.args.p + 3) = let W = c.requires.0.view in param-words W c.requires.1 (is-param W) in
    (words).0
