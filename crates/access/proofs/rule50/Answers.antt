-- `rule50` meets its contract: a node of another kind is left out, and an Ident is asked for its mark.
use mathlib.Core.Path.{◌≡◌, ◌∙◌, sym}
use mathlib.Core.Logic.{inr}
use Rattle.nodes.specs.Shown.{View, tree_of}
use Rattle.access.proofs.Laws.{other-50, ident-50}
use Rattle.access.proofs.rule50.Goals as goal

pub returns-then-kind-ne-IDENT : goal.returns-then-kind-ne-IDENT
returns-then-kind-ne-IDENT c = λ T. other-50 (tree_of T.view) _ (λ e. c.if-kind-ne-IDENT.true (c.kind.ensures T.view ∙ e))

pub is_marked-requires : goal.is_marked-requires
is_marked-requires c =
    let is-ident : (W : View c.args.nodes.now 0) → (tree_of W).kind c.args.p ≡ 35 = λ W. sym (c.kind.ensures W) ∙ c.if-kind-ne-IDENT.false in
    let T = c.requires.0 in record { view = T.view; here = c.requires.1; carries = inr (is-ident T.view) }

pub returns : goal.returns
returns c =
    let is-ident : (W : View c.args.nodes.now 0) → (tree_of W).kind c.args.p ≡ 35 = λ W. sym (c.kind.ensures W) ∙ c.if-kind-ne-IDENT.false in
    λ T. ident-50 (tree_of T.view) _ (is-ident T.view) (c.is_marked.ensures T.view _ T.state_marks)
