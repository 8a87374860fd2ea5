-- `tell_use` meets its contract: no occurrence, one of another row, or one of this row.
use native.Mathlib.Omega.{arith}
use mathlib.Core.Path.{sym, ◌∙◌}
use borrow.Author.Tests.{eq-eqb, ne_eqb}
use Rattle.records.proofs.Sweep.{keep-none, keep_one}
use Rattle.lot_words.proofs.Words.{wrote_none, wrote_as, told-nothing}
use Rattle.lot_words.proofs.tell_use.Goals as goal

pub returns-in_default : goal.returns-in_default
returns-in_default c = (λ W F P. rw c.in_default.is (wrote_none _ _), omega arith)

pub at-requires : goal.at-requires
at-requires c = rw c.in-Some.is at c.requires.0

pub returns-then-at-row : goal.returns-then-at-row
returns-then-at-row c = (λ W F P. rw c.in-Some.is (told-nothing (keep-none _ _ (ne_eqb _ _ (λ d. c.if-at-row.true (c.at.ensures.1 W F P ∙ d))))), omega arith)

pub tell-requires : goal.tell-requires
tell-requires c = let h = (rw c.in-Some.is at c.requires.0).here.2 in (c.requires.1, omega arith)

pub returns : goal.returns
returns c = (λ W F P. rw c.in-Some.is (wrote_as (sym (keep_one _ _ (eq-eqb _ _ (sym (c.at.ensures.1 W F P) ∙ c.if-at-row.false)))) (c.tell.ensures.0 tt)), c.tell.ensures.1)
