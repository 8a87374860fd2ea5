-- `untrack_row` meets its contract: nothing is noted any more for the word of the row's name.
use native.Mathlib.Omega.{arith}
use mathlib.Core.Path.{ap, sym, subst}
use Prim.Native.Nat.{ℕ}
use Rattle.rules.specs.Sweep.{same}
use Rattle.rules.specs.Vocabulary.{named}
use Rattle.nodes.specs.Shown.{Worded, tree_of}
use Rattle.nodes.proofs.Names.{marks-as}
use Rattle.places.specs.declared.Note.TheVariants.{Off}
use Rattle.places.specs.Places.{noting}
use Rattle.linear_tracked.proofs.Place.{name-worded}
use Rattle.linear_tracked.proofs.untrack_row.Goals as goal

pub note_row-requires : goal.note_row-requires
note_row-requires c = (subst (Worded c.args.nodes.now 0) (sym (c.name_at.ensures c.requires)) (name-worded c.requires), omega arith)

pub returns : goal.returns
unfolding named
returns c = λ T F N. marks-as (λ w. ap (λ (p : ℕ). noting Off (F w) (same ((tree_of T.view).text p) w) 0) (c.name_at.ensures T)) (c.note_row.ensures T.view F N)
