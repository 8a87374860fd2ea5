-- `let_rules` meets its contract: without a Let there is nothing; else the Lets are noted, the statements asked, and the notes taken off.
use mathlib.Core.Path.{sym}
use Rattle.rules.specs.Tree.{«let», statement as statements}
use Rattle.records.proofs.Laws.{added-nothing, added-by}
use Rattle.records.proofs.Sweep.{run-below-later}
use Rattle.nodes.specs.Shown.{tree_of}
use native.Mathlib.Omega.{arith}
use Rattle.nodes.proofs.Entries.{head-part}
use Rattle.nodes.proofs.Naming.{naming}
use Rattle.nodes.proofs.Head.{head-is, head_first}
use Rattle.places.specs.Places.{first_of}
use Rattle.places.proofs.Reading.{firsts-off}
use Rattle.resolve_lets.specs.Scope.{statement_names}
use Rattle.resolve_lets.proofs.Lent.{body-in}
use Rattle.resolve_lets.proofs.NoLet.{no-let-rules}
use Rattle.resolve_lets.proofs.let_rules.Goals as goal

pub returns-then-not-has_let : goal.returns-then-not-has_let
returns-then-not-has_let c = record { adds = added-nothing (λ T. sym (no-let-rules _ _ (c.has_let.ensures c.if-not-has_let.true T.lent.named.view))); cleans_lets = λ T. T.clean }

pub statements-total-requires : goal.statements-total-requires
statements-total-requires c = let T = c.requires.0 in let H = c.requires.1 in let W = T.lent.named.view in (body-in T H.here H.positive (head-is H W) (head_first H W) (c.statements-body.ensures W) c.note_parts.ensures, c.requires.2, let l = H.here.2 in omega arith)

pub returns : goal.returns
returns c =
    let H = c.requires.1 in
    let e = c.args.entry in
    let g = c.note_parts.ensures in record {
      adds = added-by (λ T. let W = T.lent.named.view in let P = c.statements-body.ensures W in head-part H W (body-in T H.here H.positive (head-is H W) (head_first H W) P g) P)
          (λ T. let W = T.lent.named.view in let S = head_first H W in run-below-later (tree_of W) statements (statement_names (tree_of W) e) e _ S.after S.inside S.none)
          c.statements-total.ensures;
      cleans_lets = λ T. let W = T.lent.named.view in firsts-off «let» e (c.note_parts-2.ensures W (first_of (tree_of W) «let» e) (g W (λ w. 0) T.clean));
    }

pub note_parts-requires : goal.note_parts-requires
note_parts-requires c = let H = c.requires.1 in (naming.lets, H.view, H.here, H.positive)

pub note_parts-requires-2 : goal.note_parts-requires-2
note_parts-requires-2 c = let H = c.requires.1 in (naming.lets, H.view, H.here, H.positive)
