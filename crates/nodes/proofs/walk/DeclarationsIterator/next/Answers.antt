-- `next` of the items and fields: into a State, past any other node.
use borrow.Author.Rules.{rules}
use native.Mathlib.Omega.{arith}
use mathlib.Core.Path.{refl}
use Rattle.nodes.specs.Shown.{In}
use Rattle.nodes.proofs.walk.DeclarationsIterator.next.Goals as goal

pub returns-clause-steps : goal.returns-clause-steps
returns-clause-steps c =
    let here : In c.args.self.now.nodes.now 0 c.args.self.now.at = search rules in
    (refl, refl, record { is = refl; before = omega arith; here = here; moved = c.next_declaration-self.ensures.moved })
