-- `use_row` meets its contract: no occurrence, a word without a row, the one that 62 is related to, or another one.
use native.Mathlib.Omega.{arith}
use Prim.Native.Nat.{◌-◌}
use mathlib.Core.Path.{sym, ◌∙◌}
use borrow.Author.Tests.{eqb-true, eqb-false}
use Rattle.linear_uses.proofs.Uses.{given, not-used, no_row, use-related, use-other}
use Rattle.linear_uses.proofs.use_row.Goals as goal

pub returns-in_default : goal.returns-in_default
returns-in_default c = λ T M U t. rw c.in_default.is (not-used t)

pub at-row-requires : goal.at-row-requires
at-row-requires c = rw c.in-Some.is at c.requires.1

pub returns-then-row-eq0 : goal.returns-then-row-eq0
returns-then-row-eq0 c = λ T M U t. rw c.in-Some.is (no_row t _ c.in-Some.field-0.ident ((given _ T c.at-row.ensures.1).is ∙ c.if-row-eq0.true))

pub add_one-requires : goal.add_one-requires
add_one-requires c =
    let l = (given _ c.requires.0 c.at-row.ensures.1).before c.if-row-eq0.false in
    (l, omega arith, c.requires.2.more_counts (c.at-row.result - 1) l)

pub is_related-requires : goal.is_related-requires
is_related-requires c = (given _ c.requires.0 c.at-row.ensures.1).before c.if-row-eq0.false

pub overflow_cast-tallies : goal.overflow_cast-tallies
overflow_cast-tallies c = let h = (rw c.in-Some.is at c.requires.1).here.2 in omega arith

pub bounds-tallies-row : goal.bounds-tallies-row
bounds-tallies-row c = let h = (given _ c.requires.0 c.at-row.ensures.1).before c.if-row-eq0.false in omega arith

pub returns-then-is_related : goal.returns-then-is_related
returns-then-is_related c =
    λ T M U t.
    let g = given _ T c.at-row.ensures.1 in
    rw c.in-Some.is (use-related t _ c.in-Some.field-0.ident g.is c.if-row-eq0.false g.few c.add_one.ensures (eqb-true _ _ (sym c.is_related.ensures ∙ c.if-is_related.true)))

pub returns-else-is_related : goal.returns-else-is_related
returns-else-is_related c =
    λ T M U t.
    let g = given _ T c.at-row.ensures.1 in
    rw c.in-Some.is (use-other t _ c.in-Some.field-0.ident g.is c.if-row-eq0.false g.few c.add_one.ensures (eqb-false _ _ (sym c.is_related.ensures ∙ c.if-is_related.false)))
