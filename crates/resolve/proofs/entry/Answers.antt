-- `entry` meets its contract: signers, clauses, Calls.
use mathlib.Core.Path.{◌∙◌, refl, sym}
use native.Mathlib.Omega.{arith}
use Rattle.records.proofs.Laws.{added-most, added-as, added-by, added-join, added-nothing}
use Rattle.records.proofs.Sweep.{has-not, has_one, keep-none, keep_one}
use Rattle.nodes.specs.Shown.{tree_of}
use Rattle.nodes.specs.First.{Head}
use Rattle.resolve.proofs.Lent.{by-clauses, by-signers}
use Rattle.rules.specs.Resolve.{entry_rules, rule35}
use Rattle.resolve.proofs.entry.Goals as goal

pub returns-then-kind-ne-ENTRY : goal.returns-then-kind-ne-ENTRY
returns-then-kind-ne-ENTRY c = record { adds = added-nothing (λ T. keep-none _ _ (has-not _ 9 (λ e. c.if-kind-ne-ENTRY.true (c.kind.ensures T.of_entry.view ∙ e)))); cleans_params = λ T. T.clean }

pub signers-signed-requires : goal.signers-signed-requires
signers-signed-requires c =
    let head : Head c.args.nodes.now 0 c.args.item c.first_statement-first.result = let W = c.requires.0.of_entry.view in record { view = W; here = c.requires.1; positive = c.requires.2; is_entry = sym (c.kind.ensures W) ∙ c.if-kind-ne-ENTRY.false; first = c.first_statement-first.ensures W } in
    let l = c.requires.3 in (by-signers c.requires.0, head, omega arith)

pub clauses-listed-requires : goal.clauses-listed-requires
clauses-listed-requires c =
    let head : Head c.args.nodes.now 0 c.args.item c.first_statement-first.result = let W = c.requires.0.of_entry.view in record { view = W; here = c.requires.1; positive = c.requires.2; is_entry = sym (c.kind.ensures W) ∙ c.if-kind-ne-ENTRY.false; first = c.first_statement-first.ensures W } in
    let l = c.requires.3 in let f = c.signers-signed.ensures.few in (by-clauses c.requires.0, head, omega arith)

pub entry_calls-requires : goal.entry_calls-requires
entry_calls-requires c =
    let head : Head c.args.nodes.now 0 c.args.item c.first_statement-first.result = let W = c.requires.0.of_entry.view in record { view = W; here = c.requires.1; positive = c.requires.2; is_entry = sym (c.kind.ensures W) ∙ c.if-kind-ne-ENTRY.false; first = c.first_statement-first.ensures W } in
    let l = c.requires.3 in
    let f = c.signers-signed.ensures.few in
    let g = c.clauses-listed.ensures.few in
    (c.requires.0.of_entry, head, omega arith)

pub returns : goal.returns
unfolding entry_rules rule35
returns c =
    record {
      adds = added-most (omega arith)
          (added-as (λ T. sym (keep_one (entry_rules (tree_of T.of_entry.view)) _ (has_one _ 9 (sym (c.kind.ensures T.of_entry.view) ∙ c.if-kind-ne-ENTRY.false))))
          (added-join (added-by (λ T. by-signers T) (λ T. refl) c.signers-signed.ensures)
          (added-join (added-by (λ T. by-clauses T) (λ T. refl) c.clauses-listed.ensures) (added-by (λ T. T.of_entry) (λ T. refl) c.entry_calls.ensures.adds))));
      cleans_params = c.entry_calls.ensures.cleans_params;
    }

pub first_statement-first-requires : goal.first_statement-first-requires
first_statement-first-requires c = (c.requires.0.of_entry.view, c.requires.1, c.requires.2)
