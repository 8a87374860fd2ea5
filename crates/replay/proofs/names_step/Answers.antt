-- `names_step` meets its contract: one name after the other.
use borrow.Author.Rules.{rules}
use mathlib.Core.Path.{refl, sym, ◌∙◌}
use Rattle.replay.specs.Differences.{name_step, name_told}
use Rattle.replay.proofs.Laws.{stepped-none, stepped-more, stepped-stop, stepped-all, told-none, told-more, told-here}
use Rattle.replay.proofs.names_step.Goals as goal

pub loop-name-init : goal.loop-name-init
loop-name-init g c = (stepped-none _ _ _, told-none _ _ _ _, search rules, search rules, search rules)

pub returns-in_err-found-clause-err : goal.returns-in_err-found-clause-err
returns-in_err-found-clause-err g c =
    let one = told-here (name_told c.args.file.now c.args.case.refusal c.args.image.now) (name_step c.args.file.now c.args.case.refusal c.args.image.now) c.args.count c.args.at c.loop-name._name c.loop-name.next c.loop-name.invariant.1 (search rules) c.in_err-found.ensures.err in search rules

pub returns-in_default-clause-value : goal.returns-in_default-clause-value
returns-in_default-clause-value g c =
    stepped-stop (name_step c.args.file.now c.args.case.refusal c.args.image.now) c.args.count c.args.at c.loop-name._name _ _ c.loop-name.invariant.0 (search rules) (sym c.in_default.is ∙ c.in_ok-found.ensures.value)

pub loop-name-preserved : goal.loop-name-preserved
loop-name-preserved g c = (
  stepped-more (name_step c.args.file.now c.args.case.refusal c.args.image.now) c.args.count c.args.at c.loop-name._name _ _ c.loop-name.invariant.0 (search rules) (sym c.in-Some.is ∙ c.in_ok-found.ensures.value),
  told-more (name_told c.args.file.now c.args.case.refusal c.args.image.now) (name_step c.args.file.now c.args.case.refusal c.args.image.now) c.args.count c.args.at c.loop-name._name _ c.loop-name.invariant.1 (search rules) (sym c.in-Some.is ∙ c.in_ok-found.ensures.value),
  search rules,
  search rules,
  search rules,
)

pub returns-clause-value : goal.returns-clause-value
returns-clause-value g c = stepped-all (name_step c.args.file.now c.args.case.refusal c.args.image.now) c.args.count c.args.at c.loop-name._name _ _ c.loop-name.invariant.0 (search rules) refl
