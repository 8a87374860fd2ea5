-- `mark_field` meets its contract: the type of a FieldDecl replaces what was marked for its Name.
use mathlib.Core.Path.{◌≡◌, ◌∙◌, sym}
use Prim.Native.Nat.{◌+◌}
use Rattle.rules.specs.Words.{Q_Address}
use Rattle.nodes.specs.Shown.{View, Worded, tree_of}
use Rattle.resolve_calls.proofs.Types.{field-words, field-other, field_marks}
use Rattle.resolve_calls.proofs.mark_field.Goals as goal

pub returns-then-kind-eq-FIELD_DECL : goal.returns-then-kind-eq-FIELD_DECL
returns-then-kind-eq-FIELD_DECL c =
    let is_field : (W : View c.args.nodes.now 0) → (tree_of W).kind c.args.p ≡ 4 = λ W. sym (c.kind.ensures W) ∙ c.if-kind-eq-FIELD_DECL.true in
    λ T P M. let W = T.view in field_marks (tree_of W) _ P _ (is_field W) (c.is_word-on.ensures W Q_Address T.address_number) (c.mark.ensures W P M)

pub returns-else-kind-eq-FIELD_DECL : goal.returns-else-kind-eq-FIELD_DECL
returns-else-kind-eq-FIELD_DECL c = λ T P M. field-other (tree_of T.view) _ P (λ e. c.if-kind-eq-FIELD_DECL.false (c.kind.ensures T.view ∙ e)) M

pub is_word-on-requires : goal.is_word-on-requires
is_word-on-requires c =
    let is_field : (W : View c.args.nodes.now 0) → (tree_of W).kind c.args.p ≡ 4 = λ W. sym (c.kind.ensures W) ∙ c.if-kind-eq-FIELD_DECL.true in
    let words : Worded c.args.nodes.now 0 (c.args.p + 1) × Worded c.args.nodes.now 0 (c.args.p + 3) = let W = c.requires.0.view in field-words W c.requires.1 (is_field W) in
    (words).1

pub mark-requires : goal.mark-requires
mark-requires c =
    let is_field : (W : View c.args.nodes.now 0) → (tree_of W).kind c.args.p ≡ 4 = λ W. sym (c.kind.ensures W) ∙ c.if-kind-eq-FIELD_DECL.true in
    let words : Worded c.args.nodes.now 0 (c.args.p + 1) × Worded c.args.nodes.now 0 (c.args.p + 3) = let W = c.requires.0.view in field-words W c.requires.1 (is_field W) in
    (words).0
