-- `is_state` meets its contract: another kind, or the mark of its name.
use mathlib.Core.Path.{◌≡◌, ◌∙◌, sym, ap}
use mathlib.Core.Bool.{Bool}
use Rattle.rules.specs.Vocabulary.{rec, only}
use Rattle.nodes.specs.Shown.{View, tree_of}
use Rattle.nodes.proofs.Turns.{named-at}
use Rattle.resolve_names.specs.Seen.{state_rule}
use Rattle.records.proofs.Sweep.{asks-other, asks-here}
use Rattle.resolve_names.proofs.is_state.Goals as goal

pub returns-then-kind : goal.returns-then-kind
returns-then-kind c = λ code place T. asks-other (state_rule code place (tree_of T.view)) c.args.p (rec code place 0) (λ e. c.if-kind.true (c.kind.ensures T.view ∙ e))

pub returns : goal.returns
returns c =
    let is_one : (W : View c.args.nodes.now c.args.base) → (tree_of W).kind c.args.p ≡ c.args.kind = λ W. sym (c.kind.ensures W) ∙ c.if-kind.false in
    λ code place T. asks-here (state_rule code place (tree_of T.view)) c.args.p (rec code place 0) _ (is_one T.view) (ap (λ (b : Bool). only b (rec code place 0)) (sym (c.is_marked.ensures T.view _ T.state_marks)))

pub is_marked-requires : goal.is_marked-requires
is_marked-requires c =
    let is_one : (W : View c.args.nodes.now c.args.base) → (tree_of W).kind c.args.p ≡ c.args.kind = λ W. sym (c.kind.ensures W) ∙ c.if-kind.false in
    let W = c.requires.1.view in named-at W c.requires.2 c.requires.0 (is_one W)
