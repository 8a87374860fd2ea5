-- `is_field` meets its contract: a node of another kind is none, and a Field has its Name's mark.
use mathlib.Core.Path.{◌≡◌, ◌∙◌, sym, ap}
use Rattle.nodes.specs.Shown.{View, tree_of}
use Prim.Native.Nat.{ℕ}
use Rattle.rules.specs.Sweep.{has_word}
use Rattle.nodes.proofs.Shapes.{field-name}
use Rattle.nodes.proofs.Fields.{field-other, field-so, field-worded}
use Rattle.nodes.proofs.is_field.Goals as goal

pub returns-then-kind-ne-FIELD : goal.returns-then-kind-ne-FIELD
returns-then-kind-ne-FIELD c = λ W ws M. sym (field-other (tree_of W) ws _ (λ e. c.if-kind-ne-FIELD.true (c.kind.ensures W ∙ e)))

pub end-requires : goal.end-requires
end-requires c =
    let is_one : (W : View c.args.nodes.now c.args.base) → (tree_of W).kind c.args.x ≡ 42 = λ W. sym (c.kind.ensures W) ∙ c.if-kind-ne-FIELD.false in
    let W = c.requires.0 in (field-name W c.requires.1 (is_one W)).0

pub is_marked-requires : goal.is_marked-requires
is_marked-requires c =
    let is_one : (W : View c.args.nodes.now c.args.base) → (tree_of W).kind c.args.x ≡ 42 = λ W. sym (c.kind.ensures W) ∙ c.if-kind-ne-FIELD.false in
    let W = c.requires.0 in field-worded W c.requires.1 (is_one W) (c.end.ensures W)

pub returns : goal.returns
returns c =
    let is_one : (W : View c.args.nodes.now c.args.base) → (tree_of W).kind c.args.x ≡ 42 = λ W. sym (c.kind.ensures W) ∙ c.if-kind-ne-FIELD.false in
    λ W ws M. c.is_marked.ensures W _ M ∙ ap (λ (f : ℕ). has_word ((tree_of W).text f) ws) (c.end.ensures W) ∙ sym (field-so (tree_of W) ws _ (is_one W))
