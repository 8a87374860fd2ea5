-- `untrack` meets its contract: row by row, until no name of a row has anything noted.
use lib.ListN.{get_or}
use Rattle.rules.specs.Vocabulary.{named}
use Rattle.nodes.specs.Shown.{tree_of}
use Rattle.nodes.proofs.Folding.{Folding}
use Rattle.places.specs.declared.Note.TheVariants.{Off}
use Rattle.places.specs.Places.{noting}
use Rattle.linear_tracked.specs.Rows.{Placed}
use Rattle.linear_parts.specs.Parts.{rows_of}
use Rattle.linear_tracked.proofs.untrack.Given as goal

abbrev pub invariant-loop-k : goal.invariant-loop-k
invariant-loop-k l = Folding 0 noting Off (λ (T : Placed l.nodes l.n l.places). T.view.image) (λ T w i. named (tree_of T.view) w (get_or (rows_of T.entry (tree_of T.view)) i 0)) 0 l.n l.initial.rows l.rows l.k
