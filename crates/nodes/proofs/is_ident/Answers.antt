-- `is_ident` meets its contract: an Ident, or not.
use mathlib.Core.Path.{◌≡◌, ◌∙◌, sym}
use mathlib.Core.Logic.{inr}
use Rattle.nodes.specs.Shown.{View, tree_of}
use Rattle.nodes.proofs.Fields.{ident-other, ident-so}
use Rattle.nodes.proofs.is_ident.Goals as goal

pub returns-then-kind-ne-IDENT : goal.returns-then-kind-ne-IDENT
returns-then-kind-ne-IDENT c = λ W ws M. sym (ident-other (tree_of W) ws _ (λ e. c.if-kind-ne-IDENT.true (c.kind.ensures W ∙ e)))

pub is_marked-requires : goal.is_marked-requires
is_marked-requires c =
    let is_one : (W : View c.args.nodes.now c.args.base) → (tree_of W).kind c.args.x ≡ 35 = λ W. sym (c.kind.ensures W) ∙ c.if-kind-ne-IDENT.false in
    let W = c.requires.0 in record { view = W; here = c.requires.1; carries = inr (is_one W) }

pub returns : goal.returns
returns c =
    let is_one : (W : View c.args.nodes.now c.args.base) → (tree_of W).kind c.args.x ≡ 35 = λ W. sym (c.kind.ensures W) ∙ c.if-kind-ne-IDENT.false in
    λ W ws M. c.is_marked.ensures W _ M ∙ sym (ident-so (tree_of W) ws _ (is_one W))
