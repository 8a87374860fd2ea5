-- `tally` meets its contract: the burn marks on the first rows, then the counted occurrences on the last ones.
use native.Mathlib.Omega.{arith}
use Rattle.linear_occurrences.proofs.Ahead.{clear_later}
use Rattle.linear.proofs.Lent.{unburned-of, using-of, entry-tallied}
use Rattle.linear.proofs.tally.Goals as goal

pub mark_burned-requires : goal.mark_burned-requires
mark_burned-requires c = let d = c.requires in let W = d.0.known.view in (unburned-of d.0, record { view = W; here = d.1; positive = d.2; is_entry = d.0.is_entry; first = c.first_statement-start.ensures W }, d.0.blank)

pub statements-body-requires : goal.statements-body-requires
statements-body-requires c = let W = c.requires.0.known.view in record { view = W; here = c.requires.1; first = c.first_statement-start.ensures W }

pub count_uses-requires : goal.count_uses-requires
count_uses-requires c =
    let T = c.requires.0 in
    let S = c.first_statement-start.ensures T.known.view in
    let a = S.after in
    (using-of T c.requires.2 S (c.statements-body.ensures T.known.view), clear_later (omega arith) c.requires.3, (_, (c.mark_burned.ensures (unburned-of T)).1))

pub returns : goal.returns
returns c =
    λ T.
    let z = c.requires.2 in
    let S = c.first_statement-start.ensures T.known.view in
    let H = c.statements-body.ensures T.known.view in
    let U = c.count_uses.ensures (using-of T z S H) in
    let B = c.mark_burned.ensures (unburned-of T) in
    (B.0, U.0, entry-tallied T z S H (U.1 _ B.1))
