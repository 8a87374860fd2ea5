-- `entry32` meets its contract: the signers, the statements in one sweep, the clauses.
use borrow.Author.Rules.{rules}
use mathlib.Core.Logic.{inr}
use mathlib.Core.Path.{refl}
use native.Mathlib.Omega.{arith}
use Rattle.records.proofs.Laws.{added-most, added-by, added-join}
use Rattle.nodes.specs.First.{Head}
use Rattle.nodes.proofs.Spans.{span_of}
use Rattle.rules.specs.All.{entry_of}
use Rattle.nodes.specs.Shown.{tree_of}
use Rattle.nodes.proofs.Entries.{entry-holds}
use Rattle.resolve_deployer.proofs.Deployer.{body-32, lent-range, lent-table, table_of}
use Rattle.rules.specs.Resolve.{deployer_in, rule32}
use Rattle.resolve_deployer.proofs.entry32.Goals as goal

pub signers-signed-requires : goal.signers-signed-requires
signers-signed-requires c =
    let head : Head c.args.nodes.now 0 c.args.entry c.first_statement-first.result = let W = c.requires.0.view in let E = c.requires.1 in record { view = W; here = E.here; positive = E.low; is_entry = E.is W; first = c.first_statement-first.ensures W } in
    (table_of c.requires.0, head, search rules)

pub statements-body-requires : goal.statements-body-requires
statements-body-requires c = let W = c.requires.0.view in record { view = W; here = c.requires.1.here; first = c.first_statement-first.ensures W }

pub words-said-requires : goal.words-said-requires
words-said-requires c =
    let T = c.requires.0 in
    let S = c.statements-body.ensures T.view in
    let f = c.signers-signed.ensures.few in
    let l = c.requires.2 in
    (lent-table c.args.entry T S, inr refl, lent-range S (span_of T.view c.requires.1.here refl).under (c.end-end.ensures T.view), omega arith, let m = c.requires.1.here.2 in omega arith)

pub clauses32-requires : goal.clauses32-requires
clauses32-requires c =
    let head : Head c.args.nodes.now 0 c.args.entry c.first_statement-first.result = let W = c.requires.0.view in let E = c.requires.1 in record { view = W; here = E.here; positive = E.low; is_entry = E.is W; first = c.first_statement-first.ensures W } in
    let f = c.signers-signed.ensures.few in
    let g = c.words-said.ensures.few in
    let l = c.requires.2 in
    (c.requires.0, head, omega arith)

pub returns : goal.returns
unfolding deployer_in rule32
returns c =
    let E = c.requires.1 in
    added-most (omega arith)
    (added-join (added-by (λ T. table_of T) (λ T. refl) c.signers-signed.ensures)
    (added-join
    (added-by
    (λ T.
    let W = T.view in
    let e = c.args.entry in
    let d = c.end-end.ensures W in
    let a = (c.first_statement-first.ensures W).after in
    record { seen = lent-table e T (c.statements-body.ensures W); entries = entry_of (tree_of W); held = λ i l h. entry-holds W E.here E.low (E.is W) i (omega arith) (omega arith) })
    (λ T. let W = T.view in body-32 W E.here E.low (E.is W) (c.first_statement-first.ensures W) (c.end-end.ensures W))
    c.words-said.ensures)
    c.clauses32.ensures))
