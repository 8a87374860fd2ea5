-- `finds` meets its contract: a node of another kind is left out.
use mathlib.Core.Path.{◌∙◌, ◌≡◌, sym}
use Rattle.nodes.specs.Shown.{View, tree_of}
use Rattle.resolve_clauses.proofs.Hits.{carried, node-one, node-other}
use Rattle.resolve_clauses.proofs.finds.Goals as goal

pub returns-then-kind-rule : goal.returns-then-kind-rule
returns-then-kind-rule c = λ T. node-other c.args.rule T.says (tree_of T.view) _ (λ e. c.if-kind-rule.true (c.kind.ensures T.view ∙ e))

pub returns : goal.returns
returns c =
    let is_one : (W : View c.args.nodes.now c.args.base) → (tree_of W).kind c.args.p ≡ c.args.rule.kind = λ W. sym (c.kind.ensures W) ∙ c.if-kind-rule.false in
    λ T. node-one c.args.rule T.says (tree_of T.view) _ (is_one T.view) ∙ c.is_hit.ensures T

pub is_hit-requires : goal.is_hit-requires
is_hit-requires c =
    let is_one : (W : View c.args.nodes.now c.args.base) → (tree_of W).kind c.args.p ≡ c.args.rule.kind = λ W. sym (c.kind.ensures W) ∙ c.if-kind-rule.false in
    record { view = c.requires.0; here = c.requires.2; carries = carried (is_one c.requires.0) c.requires.1 }
