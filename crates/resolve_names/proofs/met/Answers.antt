-- `met` meets its contract: another kind, the first of its name, or a later one.
use mathlib.Core.Path.{◌≡◌, ◌∙◌, sym}
use mathlib.Core.List.{[], ◌∷◌}
use Rattle.rules.specs.Vocabulary.{Below}
use Rattle.rules.proofs.Reflect.{tells-has}
use Rattle.records.proofs.Sweep.{has_one, has-not, keep_one, keep-none}
use Rattle.nodes.specs.Shown.{View, tree_of}
use Rattle.nodes.proofs.Turns.{named-at}
use Rattle.resolve_names.specs.Seen.{Among}
use Rattle.resolve_names.proofs.Laws.{met-none, met-one}
use Rattle.resolve_names.proofs.met.Goals as goal

pub returns-then-kind : goal.returns-then-kind
returns-then-kind c = λ code T. keep-none _ _ (has-not _ _ (λ e. c.if-kind.true (c.kind.ensures T.view ∙ e)))

pub at-first-requires : goal.at-first-requires
at-first-requires c =
    let is_one : (W : View c.args.nodes.now c.args.base) → (tree_of W).kind c.args.p ≡ c.args.kind = λ W. sym (c.kind.ensures W) ∙ c.if-kind.false in
    let W = c.requires.1.view in named-at W c.requires.2 c.requires.0 (is_one W)

pub returns-then-p-first : goal.returns-then-p-first
returns-then-p-first c =
    let is_one : (W : View c.args.nodes.now c.args.base) → (tree_of W).kind c.args.p ≡ c.args.kind = λ W. sym (c.kind.ensures W) ∙ c.if-kind.false in
    let here : (T : Among c.args.nodes.now c.args.base c.args.kind c.args.p c.args.firsts.now) → Below (tree_of T.view) (c.args.kind ∷ []) T.holder c.args.p = λ T. record { after = T.after; inside = T.inside; kind = (tells-has _ (c.args.kind ∷ [])).so (has_one _ _ (is_one T.view)) } in
    λ code T.
    keep_one _ _ (has_one _ _ (is_one T.view))
    ∙ met-none (tree_of T.view) (c.args.kind ∷ []) T.holder c.args.p c.at-first.result code c.args.name (here T) (c.at-first.ensures.1 T.view _ T.are_first) c.if-p-first.true

pub returns : goal.returns
returns c =
    let is_one : (W : View c.args.nodes.now c.args.base) → (tree_of W).kind c.args.p ≡ c.args.kind = λ W. sym (c.kind.ensures W) ∙ c.if-kind.false in
    let here : (T : Among c.args.nodes.now c.args.base c.args.kind c.args.p c.args.firsts.now) → Below (tree_of T.view) (c.args.kind ∷ []) T.holder c.args.p = λ T. record { after = T.after; inside = T.inside; kind = (tells-has _ (c.args.kind ∷ [])).so (has_one _ _ (is_one T.view)) } in
    λ code T.
    keep_one _ _ (has_one _ _ (is_one T.view))
    ∙ met-one (tree_of T.view) (c.args.kind ∷ []) T.holder c.args.p c.at-first.result code c.args.name (here T) (c.at-first.ensures.1 T.view _ T.are_first) c.if-p-first.false
