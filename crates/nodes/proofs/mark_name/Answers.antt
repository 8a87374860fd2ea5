-- `mark_name` meets its contract: a node of another kind is left out, one of this kind has its Name marked.
use mathlib.Core.Path.{◌≡◌, sym, ◌∙◌}
use Rattle.rules.specs.Vocabulary.{named}
use Rattle.records.proofs.Sweep.{has_one, has-not}
use Rattle.nodes.specs.Shown.{View, tree_of}
use Rattle.nodes.proofs.Turns.{marks-skip, marks-keep, named-at}
use Rattle.nodes.proofs.mark_name.Goals as goal

pub mark-requires : goal.mark-requires
mark-requires c =
    let is_one : (W : View c.args.nodes.now 0) → (tree_of W).kind c.args.p ≡ c.args.sort = λ W. sym (c.kind.ensures W) ∙ c.if-kind-sort.true in
    let P = c.requires in named-at P.1 P.2 P.0 (is_one P.1)

pub returns-then-kind-sort : goal.returns-then-kind-sort
unfolding named
returns-then-kind-sort c =
    let is_one : (W : View c.args.nodes.now 0) → (tree_of W).kind c.args.p ≡ c.args.sort = λ W. sym (c.kind.ensures W) ∙ c.if-kind-sort.true in
    λ W P M. marks-keep _ P (named (tree_of W)) _ (has_one _ _ (is_one W)) (c.mark.ensures W P M)

pub returns-else-kind-sort : goal.returns-else-kind-sort
returns-else-kind-sort c = λ W P M. marks-skip _ P (named (tree_of W)) _ (has-not _ _ (λ e. c.if-kind-sort.false (c.kind.ensures W ∙ e))) M
