-- `entry` meets its contract: its parameters are noted, 24 to 29 asked, and the notes taken off.
use native.Mathlib.Omega.{arith}
use mathlib.Core.Path.{◌≡◌, refl, sym, ◌∙◌}
use Rattle.rules.specs.Tree.{param}
use Rattle.records.proofs.Laws.{added-nothing, added-by, added-as, added-join}
use Rattle.records.proofs.Sweep.{keep-none, has-not}
use Rattle.nodes.proofs.Naming.{naming}
use Rattle.nodes.specs.Shown.{View, tree_of}
use Rattle.nodes.specs.First.{Head}
use Rattle.places.specs.Places.{first_of}
use Rattle.places.proofs.Reading.{firsts-off}
use Rattle.resolve_params.proofs.Lent.{params_of, scope_of, entry-24}
use Rattle.resolve_params.proofs.entry.Goals as goal

pub returns-then-kind-ne-ENTRY : goal.returns-then-kind-ne-ENTRY
returns-then-kind-ne-ENTRY c = record { adds = added-nothing (λ T. keep-none _ _ (has-not _ 9 (λ e. c.if-kind-ne-ENTRY.true (c.kind.ensures T.named.view ∙ e)))); cleans_noted = λ T. T.clean }

pub parameters-named-requires : goal.parameters-named-requires
parameters-named-requires c =
    let is_entry : (W : View c.args.nodes.now 0) → (tree_of W).kind c.args.item ≡ 9 = λ W. sym (c.kind.ensures W) ∙ c.if-kind-ne-ENTRY.false in
    let head : Head c.args.nodes.now 0 c.args.item c.first_statement-first.result = let P = c.requires in let W = P.0.named.view in record { view = W; here = P.1; positive = P.2; is_entry = is_entry W; first = c.first_statement-first.ensures W } in
    let P = c.requires in let n = P.3 in (params_of P.0 c.note_heads.ensures, head, omega arith)

pub let_rules-total-requires : goal.let_rules-total-requires
let_rules-total-requires c =
    let is_entry : (W : View c.args.nodes.now 0) → (tree_of W).kind c.args.item ≡ 9 = λ W. sym (c.kind.ensures W) ∙ c.if-kind-ne-ENTRY.false in
    let head : Head c.args.nodes.now 0 c.args.item c.first_statement-first.result = let P = c.requires in let W = P.0.named.view in record { view = W; here = P.1; positive = P.2; is_entry = is_entry W; first = c.first_statement-first.ensures W } in
    let P = c.requires in let n = P.3 in let f = c.parameters-named.ensures.few in (scope_of P.0 c.note_heads.ensures, head, omega arith)

pub returns : goal.returns
returns c =
    let is_entry : (W : View c.args.nodes.now 0) → (tree_of W).kind c.args.item ≡ 9 = λ W. sym (c.kind.ensures W) ∙ c.if-kind-ne-ENTRY.false in
    let e = c.args.item in
    let f = c.note_heads.ensures in record {
      adds = added-as (λ T. entry-24 T.named.view e (is_entry T.named.view))
          (added-join (added-by (λ T. params_of T f) (λ T. refl) c.parameters-named.ensures) (added-by (λ T. scope_of T f) (λ T. refl) c.let_rules-total.ensures.adds));
      cleans_noted = λ T. let W = T.named.view in (firsts-off param e (c.note_heads-2.ensures W (first_of (tree_of W) param e) (f W (λ w. 0) T.clean.0)), c.let_rules-total.ensures.cleans_lets (scope_of T f));
    }

pub note_heads-requires : goal.note_heads-requires
note_heads-requires c =
    let is_entry : (W : View c.args.nodes.now 0) → (tree_of W).kind c.args.item ≡ 9 = λ W. sym (c.kind.ensures W) ∙ c.if-kind-ne-ENTRY.false in
    let head : Head c.args.nodes.now 0 c.args.item c.first_statement-first.result = let P = c.requires in let W = P.0.named.view in record { view = W; here = P.1; positive = P.2; is_entry = is_entry W; first = c.first_statement-first.ensures W } in
    (naming.head_param, head)

pub note_heads-requires-2 : goal.note_heads-requires-2
note_heads-requires-2 c =
    let is_entry : (W : View c.args.nodes.now 0) → (tree_of W).kind c.args.item ≡ 9 = λ W. sym (c.kind.ensures W) ∙ c.if-kind-ne-ENTRY.false in
    let head : Head c.args.nodes.now 0 c.args.item c.first_statement-first.result = let P = c.requires in let W = P.0.named.view in record { view = W; here = P.1; positive = P.2; is_entry = is_entry W; first = c.first_statement-first.ensures W } in
    (naming.head_param, head)
