-- `alike` meets its contract: up to k the two texts are the same, so their rests decide.
use borrow.Author.Rules.{rules}
use native.Mathlib.Omega.{arith}
use mathlib.Core.Path.{refl, sym, ◌∙◌}
use Rattle.name_table.proofs.Fours.{four_same}
use Rattle.name_table.proofs.alike.Goals as goal

pub loop-k-init : goal.loop-k-init
loop-k-init c = (search rules, search rules, refl)

pub returns-then-t-k : goal.returns-then-t-k
returns-then-t-k c = let i = c.loop-k.invariant in record { in_first = i.0; in_second = i.1; rests = i.2; differ = λ l g e. omega arith }

pub returns-then-word_at : goal.returns-then-word_at
returns-then-word_at c = let i = c.loop-k.invariant in record { in_first = i.0; in_second = i.1; rests = i.2; differ = λ l g e. c.if-word_at.true (c.word_at.ensures.0 ∙ e ∙ sym c.word_at-in-loop-k.ensures.0) }

pub loop-k-preserved : goal.loop-k-preserved
loop-k-preserved c =
    let a = c.args in
    let same = sym c.word_at.ensures.0 ∙ c.if-word_at.false ∙ c.word_at-in-loop-k.ensures.0 in
    (search rules, search rules, c.loop-k.invariant.2 ∙ four_same a.t.now a.u.now (λ i. (c.shared_slice_known-1.given i).fits) (λ i. (c.shared_slice_known-2-1.given i).fits) c.loop-k.k c.if-t-k.false c.loop-k-test.true same)

pub returns : goal.returns
returns c = let i = c.loop-k.invariant in record { in_first = i.0; in_second = i.1; rests = i.2; differ = λ l g e. omega arith }
