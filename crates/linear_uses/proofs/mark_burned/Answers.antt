-- `mark_burned` meets its contract: the names are marked, used, and taken off again.
use Rattle.nodes.proofs.Naming.{naming}
use Rattle.nodes.specs.Shown.{tree_of}
use Rattle.nodes.proofs.Turns.{taken-off}
use Rattle.linear_uses.specs.Uses.{burned_in}
use Rattle.linear_uses.proofs.Burns.{burning-of}
use Rattle.linear_uses.proofs.mark_burned.Goals as goal

pub mark_parts-requires : goal.mark_parts-requires
mark_parts-requires c = (naming.burns, c.requires.1)

pub burn_marks-requires : goal.burn_marks-requires
burn_marks-requires c = let P = c.requires in (burning-of c.args.entry c.mark_parts.ensures P.0, P.1, P.2)

pub mark_parts-requires-2 : goal.mark_parts-requires-2
mark_parts-requires-2 c = (naming.burns, c.requires.1)

pub returns : goal.returns
returns c =
    λ T.
    let B = burning-of c.args.entry c.mark_parts.ensures T in
    (taken-off (burned_in (tree_of T.on_rows.view) c.args.entry) (c.mark_parts-2.ensures T.on_rows.view _ B.burned_marks), c.burn_marks.ensures B)
