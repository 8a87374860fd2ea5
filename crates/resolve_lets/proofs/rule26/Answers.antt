-- `rule26` meets its contract: another kind, or an Ident and the first Let of its name.
use mathlib.Core.Path.{◌≡◌, ◌∙◌, sym}
use Rattle.rules.specs.Resolve.{rule26}
use Rattle.rules.specs.Vocabulary.{rec}
use Rattle.nodes.specs.Shown.{View, tree_of}
use Rattle.records.proofs.Sweep.{asks-other, asks-here}
use Rattle.resolve_lets.proofs.Laws.{late-26}
use Rattle.resolve_lets.proofs.rule26.Goals as goal

pub returns-then-kind-ne-IDENT : goal.returns-then-kind-ne-IDENT
returns-then-kind-ne-IDENT c = λ T. asks-other (rule26 (tree_of T.body.view) T.body.item c.args.s) c.args.p (rec 26 c.args.p 0) (λ e. c.if-kind-ne-IDENT.true (c.kind.ensures T.body.view ∙ e))

pub returns : goal.returns
returns c =
    let is-ident : (W : View c.args.nodes.now c.args.base) → (tree_of W).kind c.args.p ≡ 35 = λ W. sym (c.kind.ensures W) ∙ c.if-kind-ne-IDENT.false in
    λ T.
    let W = T.body.view in
    asks-here (rule26 (tree_of W) T.body.item c.args.s) c.args.p (rec 26 c.args.p 0) _ (is-ident W) (late-26 (tree_of W) T.body.item c.args.s c.args.p c.at.result c.requires.2 (c.at.ensures.1 W _ T.first_lets))
