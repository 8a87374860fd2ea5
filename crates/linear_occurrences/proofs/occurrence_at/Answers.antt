-- `occurrence_at` meets its contract: an Ident, an Assign, a Call, or none of them.
use borrow.Author.Rules.{rules}
use native.Mathlib.Omega.{arith}
use mathlib.Core.Path.{◌≡◌, ◌∙◌, sym, ap}
use Prim.Native.Nat.{ℕ, ◌<◌}
use lib.Dec.{eqb}
use mathlib.Core.Bool.{Bool}
use Rattle.image.specs.Pick.{pick}
use Rattle.rules.specs.Words.{readers}
use Rattle.nodes.specs.Shown.{View, tree_of}
use Rattle.linear_occurrences.proofs.Cells.{cells-as, cells-none, cells-one}
use Rattle.linear_occurrences.proofs.Taken.{value_in, callee-in, other-takes, assign-takes, reader-takes, call-takes}
use Rattle.linear_occurrences.proofs.Ahead.{found_none, found-ident}
use Rattle.linear_occurrences.proofs.occurrence_at.Goals as goal

pub end-value-requires : goal.end-value-requires
end-value-requires c =
    let is-assign : (W : View c.args.nodes.now c.args.base) → (tree_of W).kind c.args.p ≡ 27 = λ W. sym (c.kind.ensures W) ∙ c.in-27.is in
    let d = c.requires in let W = d.0.view in (value_in W d.1 (is-assign W)).0

pub take-requires : goal.take-requires
take-requires c =
    let is-assign : (W : View c.args.nodes.now c.args.base) → (tree_of W).kind c.args.p ≡ 27 = λ W. sym (c.kind.ensures W) ∙ c.in-27.is in
    let value : c.end-value.result < 2048 = let d = c.requires in let W = d.0.view in let v = (value_in W d.1 (is-assign W)).2.2 in let e = c.end-value.ensures W in omega arith in
    (value, c.requires.1.2)

pub is_field-requires : goal.is_field-requires
is_field-requires c =
    let is_call : (W : View c.args.nodes.now c.args.base) → (tree_of W).kind c.args.p ≡ 43 = λ W. sym (c.kind.ensures W) ∙ c.in-43.is in
    let d = c.requires in let W = d.0.view in (W, (callee-in W d.1 (is_call W)).0)

pub returns-then-is_field : goal.returns-then-is_field
returns-then-is_field c =
    let is_call : (W : View c.args.nodes.now c.args.base) → (tree_of W).kind c.args.p ≡ 43 = λ W. sym (c.kind.ensures W) ∙ c.in-43.is in
    record { finds = λ T A. let k = is_call T.view in found_none T (λ e. omega arith); takes_its_own = λ T P C. cells-none _ C (reader-takes (tree_of T.view) _ (is_call T.view) (sym (c.is_field.ensures T.view readers T.reader_marks) ∙ c.if-is_field.true)) }

pub take_arguments-requires : goal.take_arguments-requires
take_arguments-requires c =
    let is_call : (W : View c.args.nodes.now c.args.base) → (tree_of W).kind c.args.p ≡ 43 = λ W. sym (c.kind.ensures W) ∙ c.in-43.is in
    let d = c.requires in (d.0.view, (d.1, is_call))

-- an Ident takes nothing
pub returns-in-35 : goal.returns-in-35
returns-in-35 c =
    let is-ident : (W : View c.args.nodes.now c.args.base) → (tree_of W).kind c.args.p ≡ 35 = λ W. sym (c.kind.ensures W) ∙ c.in-35.is in
    record { finds = λ T A. rw c.consumed.ensures (found-ident T c.requires.1 A (is-ident T.view)); takes_its_own = λ T P C. let k = is-ident T.view in cells-none _ C (other-takes (tree_of T.view) _ (λ e. omega arith) (λ e. omega arith)) }

pub returns-in-27 : goal.returns-in-27
returns-in-27 c =
    let is-assign : (W : View c.args.nodes.now c.args.base) → (tree_of W).kind c.args.p ≡ 27 = λ W. sym (c.kind.ensures W) ∙ c.in-27.is in
    let value : c.end-value.result < 2048 = let d = c.requires in let W = d.0.view in let v = (value_in W d.1 (is-assign W)).2.2 in let e = c.end-value.ensures W in omega arith in
    let g = c.args in record {
      finds = λ T A. let k = is-assign T.view in found_none T (λ e. omega arith);
      takes_its_own = λ T P C.
          rw c.take.ensures
          (cells-as (λ i. ap (λ (b : Bool). pick b g.p (P i)) (ap (λ (v : ℕ). eqb v i) (c.end-value.ensures T.view) ∙ sym (assign-takes (tree_of T.view) _ (is-assign T.view) i)))
          (cells-one g.p C (value)));
    }

pub returns-else-is_field : goal.returns-else-is_field
returns-else-is_field c =
    let is_call : (W : View c.args.nodes.now c.args.base) → (tree_of W).kind c.args.p ≡ 43 = λ W. sym (c.kind.ensures W) ∙ c.in-43.is in
    let g = c.args in record {
      finds = λ T A. let k = is_call T.view in found_none T (λ e. omega arith);
      takes_its_own = λ T P C.
          cells-as
          (λ i. ap (λ (b : Bool). pick b g.p (P i)) (sym (call-takes (tree_of T.view) _ (is_call T.view) (sym (c.is_field.ensures T.view readers T.reader_marks) ∙ c.if-is_field.false) i)))
          (c.take_arguments.ensures T.view P C);
    }

pub returns-in_default : goal.returns-in_default
returns-in_default c =
    let other : (n : ℕ) → (c.kind.result ≡ n → ⊥) → (W : View c.args.nodes.now c.args.base) → (tree_of W).kind c.args.p ≡ n → ⊥ = λ n o W e. o (c.kind.ensures W ∙ e) in
    record { finds = λ T A. found_none T (other 35 (search rules) T.view); takes_its_own = λ T P C. cells-none _ C (other-takes (tree_of T.view) _ (other 27 (search rules) T.view) (other 43 (search rules) T.view)) }
