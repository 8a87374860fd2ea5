-- `Cursor::step` meets its contract: the next child begins where this one ends.
use mathlib.Core.Path.{refl, ◌∙◌}
use Rattle.nodes.proofs.Parts.{end_is}
use Rattle.nodes.proofs.Cursors.{at_base}
use Rattle.nodes.proofs.Cursor.step.Goals as goal

pub returns : goal.returns
returns c = let e = c.end-at.ensures.0 in record { child = refl; base = refl; end = refl; bytes = e; moved = at_base _ (λ W. e ∙ end_is W c.requires) }
