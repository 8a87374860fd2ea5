-- `refused` meets its contract: admission's refusal.
use mathlib.Core.Path.{refl, sym, ◌∙◌}
use Rattle.typeck.proofs.Laws.{refused-told}
use Rattle.typeck.proofs.refused.Goals as goal

pub returns-in-Err : goal.returns-in-Err
returns-in-Err c = refused-told c.args.image.now _ (sym c.in-Err.is ∙ c.admit.ensures) refl

pub returns-in-Ok : goal.returns-in-Ok
returns-in-Ok c = refused-told c.args.image.now _ (sym c.in-Ok.is ∙ c.admit.ensures) refl
