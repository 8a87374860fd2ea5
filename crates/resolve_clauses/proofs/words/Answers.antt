-- `words` meets its contract: one sweep over the range.
use borrow.Author.Rules.{rules}
use mathlib.Core.Path.{refl}
use native.Mathlib.Omega.{arith}
use Rattle.records.proofs.Laws.{asked, held_all}
use Rattle.records.proofs.Sweep.{sweep-again, sweep-long, sweep-starts, swept}
use Rattle.resolve_clauses.proofs.words.Goals as goal

pub loop-p-preserved : goal.loop-p-preserved
loop-p-preserved c = let i = c.loop-p.invariant in (i.0, sweep-again i.1 (asked (λ h. h.seen) c.args.rule.code _ (λ h. h.held _ i.1.low c.loop-p-test.true) _ c.finds.ensures c.emit_if-total.ensures) c.loop-p-test.true)

pub returns : goal.returns
returns c = let i = c.loop-p.invariant in swept i.1 c.loop-p-test.false (λ T. refl) (let u = i.0.under in omega arith)

pub loop-p-init : goal.loop-p-init
loop-p-init c = (c.requires.2, sweep-starts c.requires.2.order)

pub finds-requires : goal.finds-requires
finds-requires c = (c.requires.0.view, c.requires.1, search rules)

pub shape_of-out : goal.shape_of-out
shape_of-out c = sweep-long c.loop-p.invariant.1 (held_all _ c.requires.0)
