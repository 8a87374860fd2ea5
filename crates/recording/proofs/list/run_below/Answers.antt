-- `run_below` meets its contract: it goes on as long as codes are below.
use borrow.Author.Rules.{rules}
use native.Mathlib.Omega.{arith}
use mathlib.Core.Path.{◌≡◌, ◌∙◌}
use Rattle.recording.proofs.Laws.{ran-none, ran-more, ran-stops, ran-all}
use Rattle.recording.proofs.list.run_below.Goals as goal

pub loop-i-init : goal.loop-i-init
loop-i-init c = (ran-none _ _ _ _, search rules)

pub returns-then-code-u16_at : goal.returns-then-code-u16_at
returns-then-code-u16_at c = (ran-stops c.args.file.now c.args.code c.args.at c.args.count c.loop-i.i c.loop-i.invariant.0 (search rules), search rules)

pub loop-i-preserved : goal.loop-i-preserved
loop-i-preserved c = (
  ran-more c.args.file.now c.args.code c.args.at c.args.count c.loop-i.i c.loop-i.invariant.0 (search rules) (search rules),
  search rules,
)

pub returns : goal.returns
returns c =
    let e : c.args.count ≡ c.loop-i.i = omega arith in
    (e ∙ ran-all c.args.file.now c.args.code c.args.at c.args.count c.loop-i.i c.loop-i.invariant.0 (search rules), search rules)
