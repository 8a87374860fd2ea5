-- `entry_calls` meets its contract: the parameters are marked, the statements swept for both, or for 40 and then 34, and the marks taken off.
use mathlib.Core.Bool.{false}
use mathlib.Core.List.{List, ◌++◌}
use mathlib.Core.Logic.{inr}
use mathlib.Core.Path.{sym, ap, ◌∙◌}
use native.Mathlib.Omega.{arith}
use Rattle.rules.specs.Vocabulary.{Rec, calls}
use Rattle.records.proofs.Laws.{added-by, added-join, added-nothing}
use Rattle.nodes.proofs.Flat.{flat-calls}
use Rattle.nodes.proofs.Head.{head-is, head_first}
use Rattle.nodes.proofs.Turns.{set-fresh, taken-off}
use Rattle.nodes.specs.Shown.{tree_of}
use Rattle.resolve_calls.proofs.Lent.{lent-calling, lent-known}
use Rattle.resolve_calls.specs.Called.{param_typed}
use Rattle.nodes.proofs.Entries.{head-part}
use Rattle.resolve.proofs.Lent.{by-typing}
use Rattle.rules.specs.Resolve.{rule34, rule40}
use Rattle.resolve.proofs.entry_calls.Goals as goal

pub is_clean-requires : goal.is_clean-requires
is_clean-requires c =
    let T = c.requires.0 in (
      lent-calling c.args.entry T.view (c.statements-body.ensures T.view) T.field_marks (set-fresh (c.mark_params.ensures (by-typing T) (λ w. false) T.clean)),
      lent-known c.args.entry T.view (c.statements-body.ensures T.view) T.builtin_marks T.method_marks,
    )

pub returns-then-is_clean : goal.returns-then-is_clean
returns-then-is_clean c =
    let H = c.requires.1 in let e = c.args.entry in let n = c.is_clean.ensures c.if-is_clean.true in record {
      adds = added-nothing
          (λ T.
          let W = T.view in
          ap (λ (l : List Rec). l ++ calls (tree_of W) e (rule34 (tree_of W)))
          (sym (flat-calls W H.here H.positive (inr (head-is H W)) (head_first H W) (rule40 (tree_of W) e)) ∙ n.0 (lent-calling e W (c.statements-body.ensures W) T.field_marks (set-fresh (c.mark_params.ensures (by-typing T) (λ w. false) T.clean))))
          ∙ sym (flat-calls W H.here H.positive (inr (head-is H W)) (head_first H W) (rule34 (tree_of W))) ∙ n.1 (lent-known e W (c.statements-body.ensures W) T.builtin_marks T.method_marks));
      cleans_params = λ T.
          let Q = param_typed (tree_of T.view) e in
          taken-off Q (c.mark_params-then-is_clean.ensures (by-typing T) Q (set-fresh (c.mark_params.ensures (by-typing T) (λ w. false) T.clean)));
    }

pub calls40-total-requires : goal.calls40-total-requires
calls40-total-requires c =
    let T = c.requires.0 in
    let l = c.requires.2 in
    (lent-calling c.args.entry T.view (c.statements-body.ensures T.view) T.field_marks (set-fresh (c.mark_params.ensures (by-typing T) (λ w. false) T.clean)), omega arith, let m = c.requires.1.here.2 in omega arith)

pub calls34-requires : goal.calls34-requires
calls34-requires c =
    let T = c.requires.0 in
    let f = c.calls40-total.ensures.few in
    let l = c.requires.2 in
    (lent-known c.args.entry T.view (c.statements-body.ensures T.view) T.builtin_marks T.method_marks, omega arith, let m = c.requires.1.here.2 in omega arith)

pub returns : goal.returns
returns c =
    let H = c.requires.1 in
    let e = c.args.entry in
    let S = c.statements-body.ensures in
    let m = c.mark_params.ensures in record {
      adds = added-join
          (added-by (λ T. let W = T.view in head-part H W (lent-calling e W (S W) T.field_marks (set-fresh (m (by-typing T) (λ w. false) T.clean))) (S W))
          (λ T. let W = T.view in flat-calls W H.here H.positive (inr (head-is H W)) (head_first H W) (rule40 (tree_of W) e))
          c.calls40-total.ensures)
          (added-by (λ T. let W = T.view in head-part H W (lent-known e W (S W) T.builtin_marks T.method_marks) (S W))
          (λ T. let W = T.view in flat-calls W H.here H.positive (inr (head-is H W)) (head_first H W) (rule34 (tree_of W)))
          c.calls34.ensures);
      cleans_params = λ T. let Q = param_typed (tree_of T.view) e in taken-off Q (c.mark_params-2.ensures (by-typing T) Q (set-fresh (m (by-typing T) (λ w. false) T.clean)));
    }

pub mark_params-requires : goal.mark_params-requires
mark_params-requires c = (by-typing c.requires.0, c.requires.1)

pub statements-body-requires : goal.statements-body-requires
statements-body-requires c = let H = c.requires.1 in record { view = H.view; here = H.here; first = H.first }

pub mark_params-requires-then-is_clean : goal.mark_params-requires-then-is_clean
mark_params-requires-then-is_clean c = (by-typing c.requires.0, c.requires.1)

pub mark_params-requires-2 : goal.mark_params-requires-2
mark_params-requires-2 c = (by-typing c.requires.0, c.requires.1)
