-- `others` meets its contract: it counts each record that differs, from the first on.
use borrow.Author.Rules.{rules}
use Rattle.recording.proofs.Laws.{others-none, others-more, others-one, others-all}
use Rattle.recording.proofs.list.others.Goals as goal

pub loop-i-init : goal.loop-i-init
loop-i-init g c = (others-none c.args.file.now c.args.at c.args.head c.args.words.now, search rules, search rules)

pub returns-in_err-differ-clause-err : goal.returns-in_err-differ-clause-err
returns-in_err-differ-clause-err g c =
    let one = others-one c.args.file.now c.args.at c.args.head c.args.words.now c.loop-i.i c.args.head.1 (search rules) c.in_err-differ.ensures.err in search rules

pub loop-i-preserved : goal.loop-i-preserved
loop-i-preserved g c = (
  others-more c.args.file.now c.args.at c.args.head c.args.words.now c.loop-i.i _ _ c.loop-i.invariant.0 c.in_ok-differ.ensures.ok.0,
  search rules,
  search rules,
)

pub returns-clause-ok : goal.returns-clause-ok
returns-clause-ok g c = (others-all c.args.file.now c.args.at c.args.head c.args.words.now c.loop-i.i c.args.head.1 _ c.loop-i.invariant.0 (search rules), search rules)
