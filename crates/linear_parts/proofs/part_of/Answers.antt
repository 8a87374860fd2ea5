-- `part_of` meets its contract: a Param and the Name of its Type, a Let, or neither.
use borrow.Author.Rules.{rules}
use native.Mathlib.Omega.{arith}
use Prim.Native.Nat.{ℕ}
use mathlib.Core.Path.{◌≡◌, sym, ◌∙◌}
use Rattle.nodes.specs.Shown.{View, tree_of}
use Rattle.linear_parts.proofs.Parts.{type_name}
use Rattle.linear_parts.proofs.Questions.{part-other, part-param}
use Rattle.linear_parts.proofs.Parts.{part_in}
use Rattle.linear_parts.proofs.part_of.Goals as goal

pub kind-requires : goal.kind-requires
kind-requires c = part_in c.requires

pub overflow_add-p : goal.overflow_add-p
overflow_add-p c = let h = (part_in c.requires).2 in omega arith

pub is_word-requires : goal.is_word-requires
is_word-requires c =
    let is-param : (W : View c.args.nodes.now 0) → (tree_of W).kind c.args.p ≡ 10 = λ W. sym (c.kind.ensures W) ∙ c.in-10.is in
    let T = c.requires in type_name T.known.view (part_in T) (is-param T.known.view)

pub returns-then-is_word : goal.returns-then-is_word
returns-then-is_word c =
    let is-param : (W : View c.args.nodes.now 0) → (tree_of W).kind c.args.p ≡ 10 = λ W. sym (c.kind.ensures W) ∙ c.in-10.is in
    λ T. let W = T.known.view in let f = part-param (tree_of W) T.entry _ (is-param W) in (f.0 ∙ sym (c.is_word.ensures W _ T.known.asset_number) ∙ c.if-is_word.true, f.1)

pub let_part-requires : goal.let_part-requires
let_part-requires c = (c.requires, λ W. sym (c.kind.ensures W) ∙ c.in-25.is)

pub returns-else-is_word : goal.returns-else-is_word
returns-else-is_word c =
    let is-param : (W : View c.args.nodes.now 0) → (tree_of W).kind c.args.p ≡ 10 = λ W. sym (c.kind.ensures W) ∙ c.in-10.is in
    λ T. let W = T.known.view in let f = part-param (tree_of W) T.entry _ (is-param W) in (f.0 ∙ sym (c.is_word.ensures W _ T.known.asset_number) ∙ c.if-is_word.false, f.1)

pub returns-in-25 : goal.returns-in-25
returns-in-25 c = c.let_part.ensures

pub returns-in_default : goal.returns-in_default
returns-in_default c = λ T. let W = T.known.view in
    let other : (n : ℕ) → (c.kind.result ≡ n → ⊥) → (tree_of W).kind c.args.p ≡ n → ⊥ = λ n o e. o (c.kind.ensures W ∙ e) in
    part-other (tree_of W) T.entry _ (other 10 (search rules)) (other 25 (search rules))
