-- `consumed` meets its contract: 0 in the cell, or the consumer.
use borrow.Author.Tests.{eq-eqb, ne_eqb}
use Rattle.linear_occurrences.proofs.consumed.Goals as goal

pub returns-then-consumer-eq0 : goal.returns-then-consumer-eq0
returns-then-consumer-eq0 c = simp (eq-eqb _ _ c.if-consumer-eq0.true)

pub returns : goal.returns
returns c = simp (ne_eqb _ _ c.if-consumer-eq0.false)
