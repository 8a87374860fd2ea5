-- `is_maker` meets its contract: a Field, an Ident or neither.
use borrow.Author.Rules.{rules}
use mathlib.Core.Path.{◌≡◌, ◌∙◌, sym, ap}
use mathlib.Core.Logic.{inr}
use Prim.Native.Nat.{ℕ}
use Rattle.rules.specs.Sweep.{same}
use Rattle.rules.specs.Words.{split}
use Rattle.nodes.specs.Shown.{View, tree_of}
use Rattle.nodes.proofs.Shapes.{field-name}
use Rattle.nodes.proofs.Fields.{field-worded}
use Rattle.linear_parts.proofs.Questions.{maker-field, maker-ident, maker-other}
use Rattle.linear_parts.proofs.is_maker.Goals as goal

pub end-requires : goal.end-requires
end-requires c =
    let is_one : (W : View c.args.nodes.now 0) → (tree_of W).kind c.args.x ≡ 42 = λ W. sym (c.kind.ensures W) ∙ c.in-42.is in
    let W = c.requires.0 in (field-name W c.requires.1 (is_one W)).0

pub is_word-requires : goal.is_word-requires
is_word-requires c =
    let is_one : (W : View c.args.nodes.now 0) → (tree_of W).kind c.args.x ≡ 42 = λ W. sym (c.kind.ensures W) ∙ c.in-42.is in
    let W = c.requires.0 in field-worded W c.requires.1 (is_one W) (c.end.ensures W)

pub is_word-requires-in-35 : goal.is_word-requires-in-35
is_word-requires-in-35 c = let W = c.requires.0 in record { view = W; here = c.requires.1; carries = inr (sym (c.kind.ensures W) ∙ c.in-35.is) }

pub returns-in-42 : goal.returns-in-42
returns-in-42 c =
    let is_one : (W : View c.args.nodes.now 0) → (tree_of W).kind c.args.x ≡ 42 = λ W. sym (c.kind.ensures W) ∙ c.in-42.is in
    λ T.
    let W = T.view in
    c.is_word.ensures W _ T.split_number ∙ ap (λ (f : ℕ). same ((tree_of W).text f) split) (c.end.ensures W) ∙ maker-field (tree_of W) _ (is_one W)

pub returns-in-35 : goal.returns-in-35
returns-in-35 c = λ T. let W = T.view in c.is_word-in-35.ensures W _ T.mint_number ∙ maker-ident (tree_of W) _ (sym (c.kind.ensures W) ∙ c.in-35.is)

pub returns-in_default : goal.returns-in_default
returns-in_default c =
    λ T.
    let W = T.view in
    let other : (n : ℕ) → (c.kind.result ≡ n → ⊥) → (tree_of W).kind c.args.x ≡ n → ⊥ = λ n o e. o (c.kind.ensures W ∙ e) in
    maker-other (tree_of W) _ (other 42 (search rules)) (other 35 (search rules))
