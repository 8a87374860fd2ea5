-- `rule29` meets its contract: another kind, or a Let and the first parameter of its name.
use native.Mathlib.Omega.{arith}
use mathlib.Core.Path.{◌≡◌, refl, ◌∙◌, sym}
use Rattle.rules.specs.Sweep.{has}
use Rattle.rules.specs.Resolve.{rule29}
use Rattle.rules.specs.Vocabulary.{rec}
use Rattle.nodes.specs.Shown.{View, tree_of}
use Rattle.nodes.proofs.Turns.{named-at}
use Rattle.records.proofs.Sweep.{asks-other, asks-here}
use Rattle.resolve_lets.proofs.Laws.{declared-29}
use Rattle.resolve_lets.proofs.rule29.Goals as goal

pub returns-then-kind-ne-LET : goal.returns-then-kind-ne-LET
returns-then-kind-ne-LET c = λ T. asks-other (rule29 (tree_of T.view) T.holder) c.args.s (rec 29 c.args.s 0) (λ e. c.if-kind-ne-LET.true (c.kind.ensures T.view ∙ e))

pub at-requires : goal.at-requires
unfolding has
at-requires c =
    let is-let : (W : View c.args.nodes.now c.args.base) → (tree_of W).kind c.args.s ≡ 25 = λ W. sym (c.kind.ensures W) ∙ c.if-kind-ne-LET.false in
    let W = c.requires.0.view in named-at W c.requires.1 (omega arith, refl) (is-let W)

pub returns : goal.returns
returns c =
    let is-let : (W : View c.args.nodes.now c.args.base) → (tree_of W).kind c.args.s ≡ 25 = λ W. sym (c.kind.ensures W) ∙ c.if-kind-ne-LET.false in
    λ T.
    let W = T.view in
    asks-here (rule29 (tree_of W) T.holder) c.args.s (rec 29 c.args.s 0) _ (is-let W) (declared-29 (tree_of W) T.holder c.args.s c.at.result (c.at.ensures.1 W _ T.are_first))
