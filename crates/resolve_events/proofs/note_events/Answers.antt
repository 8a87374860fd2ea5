-- `note_events` meets its contract: without an Event there is nothing to note.
use native.Mathlib.Omega.{arith}
use mathlib.Core.Path.{refl, sym}
use Rattle.rules.specs.Sweep.{has}
use Rattle.rules.specs.Tree.{event}
use Rattle.nodes.specs.Shown.{tree_of}
use Rattle.nodes.proofs.Names.{marks-as}
use Rattle.places.specs.declared.Note.TheVariants.{Last}
use Rattle.resolve_events.proofs.Absent.{none-to-note}
use Rattle.resolve_events.proofs.note_events.Goals as goal

pub returns-then-not-has : goal.returns-then-not-has
returns-then-not-has c = λ W F T. marks-as (λ w. sym (none-to-note Last (tree_of W) event 0 (c.requires.2 c.if-not-has.true W) w (F w))) T

pub note_names-requires : goal.note_names-requires
unfolding has
note_names-requires c = (((omega arith, refl), refl), c.requires.0, c.requires.1)

pub returns : goal.returns
returns c = c.note_names.ensures
