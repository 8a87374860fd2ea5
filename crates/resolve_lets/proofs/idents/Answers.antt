-- `idents` meets its contract: one sweep over the nodes of the statement.
use borrow.Author.Rules.{rules}
use native.Mathlib.Omega.{arith}
use Rattle.records.proofs.Laws.{asked, held_all}
use Rattle.nodes.specs.Shown.{In}
use Rattle.nodes.proofs.Entries.{held_in}
use Rattle.nodes.proofs.Steps.{walk-on, below-starts, below-done}
use Rattle.resolve_lets.proofs.idents.Goals as goal

pub loop-p-preserved : goal.loop-p-preserved
loop-p-preserved c =
    let here : In c.args.nodes.now c.args.base c.loop-p.p = search rules in
    walk-on c.loop-p.invariant (asked (λ h. h.seen) 26 _ (λ h. held_in c.args.nodes.now h (here)) _ c.rule26.ensures c.emit_if-total.ensures) (omega arith, omega arith) (λ T j a b. absurd (omega arith))

pub loop-p-init : goal.loop-p-init
loop-p-init c = below-starts c.args.s (held_all _ c.requires.0) c.requires.1 c.end-end.ensures

pub returns : goal.returns
returns c = below-done c.args.s c.loop-p.invariant c.loop-p-test.false c.end-end.ensures
