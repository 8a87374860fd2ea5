-- `entry` meets its contract: the names it writes are marked, its statements swept, the marks taken off.
use borrow.Author.Rules.{rules}
use mathlib.Core.Path.{◌∙◌, sym}
use mathlib.Core.Bool.{false}
use Rattle.records.proofs.Laws.{added-nothing, added-by}
use Rattle.records.proofs.Sweep.{keep-none, has-not}
use Rattle.nodes.specs.Shown.{tree_of}
use Rattle.nodes.proofs.Head.{head-at}
use Rattle.nodes.proofs.Entries.{entry-holds, part_held}
use Rattle.nodes.proofs.Turns.{set-fresh, taken-off}
use Rattle.access.specs.Seen.{written_in}
use Rattle.access.proofs.Lent.{body_of, entry-51}
use Rattle.access.proofs.entry.Goals as goal

pub returns-then-kind-ne-ENTRY : goal.returns-then-kind-ne-ENTRY
returns-then-kind-ne-ENTRY c = record { adds = added-nothing (λ T. keep-none _ _ (has-not _ 9 (λ e. c.if-kind-ne-ENTRY.true (c.kind.ensures T.view ∙ e)))); cleans_written = λ T. T.clean }

pub statements-total-requires : goal.statements-total-requires
statements-total-requires c =
    let T = c.requires.0 in
    (body_of c.args.item T (c.statements-body.ensures T.view) (set-fresh (c.declared_writes.ensures T.view (λ w. false) T.clean)), c.requires.3, search rules)

pub returns : goal.returns
returns c =
    let e = c.args.item in
    let P = c.requires in
    let k = c.kind.ensures in
    let i = c.if-kind-ne-ENTRY.false in
    let S = c.first_statement-first.ensures in
    let s = c.statements-body.ensures in
    let d = c.declared_writes.ensures in record { adds = added-by (λ T. let W = T.view in part_held W P.1 P.2 (body_of e T (s W) (set-fresh (d W (λ w. false) T.clean))) (entry-holds W P.1 P.2 (sym (k W) ∙ i)) (s W) (S W).after) (λ T. let W = T.view in entry-51 W P.1 P.2 (sym (k W) ∙ i) (S W)) c.statements-total.ensures; cleans_written = λ T. let W = T.view in taken-off (written_in (tree_of W) e) (c.declared_writes-2.ensures W (written_in (tree_of W) e) (set-fresh (d W (λ w. false) T.clean))) }

pub declared_writes-requires : goal.declared_writes-requires
declared_writes-requires c = let P = c.requires in head-at P.0.view P.1 P.2 c.kind.ensures c.if-kind-ne-ENTRY.false c.first_statement-first.ensures

pub declared_writes-requires-2 : goal.declared_writes-requires-2
declared_writes-requires-2 c = let P = c.requires in head-at P.0.view P.1 P.2 c.kind.ensures c.if-kind-ne-ENTRY.false c.first_statement-first.ensures
