-- `rule51` meets its contract: an Assign, a Call or neither.
use borrow.Author.Rules.{rules}
use native.Mathlib.Omega.{arith}
use mathlib.Core.Path.{◌≡◌, refl, ◌∙◌, sym}
use Rattle.rules.specs.Sweep.{has}
use Rattle.rules.specs.Words.{writers}
use Rattle.nodes.specs.Shown.{tree_of}
use Rattle.nodes.proofs.Shapes.{first-in, field-base}
use Rattle.nodes.proofs.Fields.{field-kind}
use Rattle.access.proofs.Laws.{other-51, assign-51, call-other, call-51}
use Rattle.access.proofs.rule51.Goals as goal

pub is_write-requires : goal.is_write-requires
unfolding has
is_write-requires c = let T = c.requires.0.writing in (T, first-in T.view c.requires.1 27 (sym (c.kind.ensures T.view) ∙ c.in-27.is) (omega arith) refl)

pub returns-then-not-is_field : goal.returns-then-not-is_field
returns-then-not-is_field c =
    λ T.
    let W = T.writing.view in
    call-other (tree_of W) _ _ (sym (c.kind.ensures W) ∙ c.in-43.is) (sym (c.is_field.ensures W writers T.writer_marks) ∙ c.if-not-is_field.true)

pub is_write-requires-in-43 : goal.is_write-requires-in-43
unfolding has
is_write-requires-in-43 c =
    let T = c.requires.0 in
    let W = T.writing.view in
    (T.writing, field-base W (first-in W c.requires.1 43 (sym (c.kind.ensures W) ∙ c.in-43.is) (omega arith) refl) _ refl (field-kind (tree_of W) writers _ (sym (c.is_field.ensures W writers T.writer_marks) ∙ c.if-not-is_field.false)))

pub returns-in-27 : goal.returns-in-27
returns-in-27 c = λ T. let W = T.writing.view in assign-51 (tree_of W) _ _ (sym (c.kind.ensures W) ∙ c.in-27.is) (c.is_write.ensures T.writing)

pub returns-else-not-is_field : goal.returns-else-not-is_field
returns-else-not-is_field c =
    λ T.
    let W = T.writing.view in
    call-51 (tree_of W) _ _ (sym (c.kind.ensures W) ∙ c.in-43.is) (sym (c.is_field.ensures W writers T.writer_marks) ∙ c.if-not-is_field.false) (c.is_write-in-43.ensures T.writing)

pub returns-in_default : goal.returns-in_default
returns-in_default c =
    λ T.
    let W = T.writing.view in
    let m : c.kind.result ≡ 27 → ⊥ = search rules in
    let n : c.kind.result ≡ 43 → ⊥ = search rules in
    let k = c.kind.ensures W in
    other-51 (tree_of W) _ _ (λ e. m (k ∙ e)) (λ e. n (k ∙ e))

pub is_field-requires : goal.is_field-requires
unfolding has
is_field-requires c =
    let W = c.requires.0.writing.view in (W, first-in W c.requires.1 43 (sym (c.kind.ensures W) ∙ c.in-43.is) (omega arith) refl)
