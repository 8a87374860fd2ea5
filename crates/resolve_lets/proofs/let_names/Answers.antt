-- `let_names` meets its contract: three questions, one after the other.
use native.Mathlib.Omega.{arith}
use Rattle.rules.specs.Sweep.{has}
use Rattle.rules.specs.Tree.{«let»}
use Rattle.records.proofs.Laws.{asked, asked-at, added-as, added-join}
use Rattle.nodes.specs.Shown.{tree_of}
use Rattle.nodes.proofs.Entries.{held_in}
use Rattle.nodes.proofs.Naming.{naming}
use Rattle.resolve_lets.proofs.Laws.{lets_at, at-itself}
use Rattle.resolve_lets.proofs.Lent.{among_in, state-of}
use Rattle.resolve_lets.proofs.let_names.Goals as goal

pub met-requires : goal.met-requires
met-requires c = (naming.lets.0, among_in c.requires.0.scope.body c.requires.1 c.requires.0.scope.first_lets, c.requires.1, omega arith)

pub returns : goal.returns
returns c =
    let i = c.requires.1 in
    let s = c.args.s in
    let n = c.args.nodes.now in
    let h = c.met.result in
    added-as (λ T. let B = T.seen.scope.body in let t = tree_of B.view in lets_at t B.item s (has (t.kind s) «let»))
    (added-join (asked-at (λ T. among_in T.seen.scope.body i T.seen.scope.first_lets) 27 s (λ T. held_in n T i) h (at-itself 27 s h (c.met.ensures 27)) c.emit_hit-earlier.ensures)
    (added-join (asked (λ T. state-of T.seen) 28 s (λ T. held_in n T i) _ (c.is_state.ensures 28 s) c.emit_if-named.ensures)
    (asked (λ T. among_in T.seen.scope.body i T.seen.first_params) 29 s (λ T. held_in n T i) _ c.rule29.ensures c.emit_if.ensures)))

pub is_state-requires : goal.is_state-requires
is_state-requires c = (naming.lets.0, state-of c.requires.0, c.requires.1)

pub rule29-requires : goal.rule29-requires
rule29-requires c = (among_in c.requires.0.scope.body c.requires.1 c.requires.0.first_params, c.requires.1)
