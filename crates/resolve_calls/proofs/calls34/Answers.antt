-- `calls34` meets its contract: one sweep over the nodes that are lent.
use native.Mathlib.Omega.{arith}
use Rattle.records.proofs.Laws.{asked}
use Rattle.records.proofs.Sweep.{sweep-again}
use Rattle.nodes.proofs.Spans.{span-whole, upto_is, whole-starts, whole-swept}
use Rattle.resolve_calls.proofs.calls34.Goals as goal

pub overflow_add-end : goal.overflow_add-end
overflow_add-end c = let W = c.requires.0.view in let u = (span-whole W (upto_is W)).under in omega arith

pub loop-p-preserved : goal.loop-p-preserved
loop-p-preserved c = let i = c.loop-p.invariant in (i.0, sweep-again i.1 (asked (λ h. h.seen) 34 _ (λ h. h.held _ i.1.low c.loop-p-test.true) _ c.rule34.ensures c.emit_if-total.ensures) c.loop-p-test.true)

pub loop-p-init : goal.loop-p-init
loop-p-init c = whole-starts c.requires.0.view

pub returns : goal.returns
returns c = whole-swept (λ h. h.seen.view) c.loop-p.invariant c.loop-p-test.false
