-- `calls22` meets its contract: one sweep over the nodes that are lent, which all stand in the entry that is told.
use native.Mathlib.Omega.{arith}
use Rattle.records.proofs.Laws.{asked}
use Rattle.records.proofs.Sweep.{sweep-again}
use Rattle.nodes.proofs.Spans.{span-whole, upto_is, whole-starts, whole-swept}
use Rattle.resolve_mints.proofs.calls22.Goals as goal

pub overflow_add-end : goal.overflow_add-end
overflow_add-end c = let W = c.requires.0.view in let u = (span-whole W (upto_is W)).under in omega arith

pub loop-p-preserved : goal.loop-p-preserved
loop-p-preserved c =
    let i = c.loop-p.invariant in
    let l = c.loop-p-test.true in
    (i.0, sweep-again i.1 (asked (λ h. h.seen) 22 _ (λ h. h.held c.loop-p.p i.1.low l) _ c.rule22.ensures c.emit_if-total.ensures) l)

pub loop-p-init : goal.loop-p-init
loop-p-init c = whole-starts c.requires.0.view

pub returns : goal.returns
returns c = whole-swept (λ h. h.seen.view) c.loop-p.invariant c.loop-p-test.false
