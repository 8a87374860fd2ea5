-- `entry` meets its contract: no Entry, one whose signature was met, or a new one, which is entered.
use native.Mathlib.Omega.{arith}
use Prim.Native.Nat.{ℕ, ◌+◌, ◌<◌, ◌≤◌}
use mathlib.Core.Path.{◌≡◌, sym, ◌∙◌, subst}
use Rattle.rules.specs.All.{entry_of}
use Rattle.rules.specs.Resolve.{signature, first_signed}
use Rattle.std.specs.Prelude.{Some}
use Rattle.records.proofs.Laws.{asked-at, added-nothing}
use Rattle.nodes.specs.Shown.{View, tree_of}
use Rattle.nodes.proofs.Entries.{entry-holds}
use Rattle.signature.proofs.Reading.{params-from}
use Rattle.resolve_overloads.specs.Keys.{Chained, Sought}
use Rattle.resolve_overloads.proofs.Chain.{chains-skip, chains-enter, chains-as}
use Rattle.resolve_overloads.proofs.Sought.{at_none, at_one, at_other, is-new, not_new, other-not-new}
use Rattle.resolve_overloads.proofs.entry.Goals as goal

pub returns-then-first-item : goal.returns-then-first-item
returns-then-first-item c =
    let is_entry : (W : View c.args.nodes.now 0) → (tree_of W).kind c.args.item ≡ 9 = λ W. sym (c.kind.ensures W) ∙ c.if-kind-ne-ENTRY.false in
    let Given : Type 0 = Chained c.args.nodes.now c.args.item c.args.kept.now in
    let sought : (C : Given) → Sought c.args.nodes.now c.args.item c.entry_key-key.result c.args.kept.now = λ C. record {
      it = record { view = C.view; here = c.requires.1; low = c.requires.2; is = is_entry C.view };
      of_e = c.entry_key-key.ensures C.view;
      chains = C.chains;
    } in
    let found : (C : Given) → c.first_signed-first.result ≡ first_signed (tree_of C.view) (signature (tree_of C.view) c.args.item) = λ C. c.first_signed-first.ensures.1 (sought C) in
    let name-stands : (C : Given) → entry_of (tree_of C.view) (c.args.item + 1) ≡ c.args.item = λ C. let P = c.requires in let k = is_entry C.view in let h = (params-from C.view P.1 k).1 in entry-holds C.view P.1 P.2 k _ (omega arith) (omega arith) in
    let P = c.requires in record { adds = asked-at (λ (C : Given). C) 23 _ (name-stands) (Some _) (λ C. at_one (tree_of C.view) _ (is_entry C.view) (found C) c.if-first-item.true) c.emit.ensures; chaining = λ C. chains-skip C.view.image C.chains (not_new C.view P.1 (is_entry C.view) (subst (λ (x : ℕ). x < c.args.item) (found C) c.if-first-item.true)) }

pub returns : goal.returns
returns c =
    let is_entry : (W : View c.args.nodes.now 0) → (tree_of W).kind c.args.item ≡ 9 = λ W. sym (c.kind.ensures W) ∙ c.if-kind-ne-ENTRY.false in
    let Given : Type 0 = Chained c.args.nodes.now c.args.item c.args.kept.now in
    let sought : (C : Given) → Sought c.args.nodes.now c.args.item c.entry_key-key.result c.args.kept.now = λ C. record {
      it = record { view = C.view; here = c.requires.1; low = c.requires.2; is = is_entry C.view };
      of_e = c.entry_key-key.ensures C.view;
      chains = C.chains;
    } in
    let found : (C : Given) → c.first_signed-first.result ≡ first_signed (tree_of C.view) (signature (tree_of C.view) c.args.item) = λ C. c.first_signed-first.ensures.1 (sought C) in
    let P = c.requires in record {
      adds = added-nothing (λ C. at_none (tree_of C.view) _ (is_entry C.view) (found C) c.if-first-item.false);
      chaining = λ C.
          let W = C.view in
          let f = c.enter.ensures in
          let l = subst (λ (x : ℕ). c.args.item ≤ x) (found C) c.if-first-item.false in
          let n = is-new W P.1 (is_entry W) l P.2 in
          chains-as W.image (chains-enter W.image C.chains (c.entry_key-key.ensures W) n P.1.2) f.0 f.1 f.2;
    }

pub returns-then-kind-ne-ENTRY : goal.returns-then-kind-ne-ENTRY
returns-then-kind-ne-ENTRY c =
    let no-entry : (W : View c.args.nodes.now 0) → (tree_of W).kind c.args.item ≡ 9 → ⊥ = λ W e. c.if-kind-ne-ENTRY.true (c.kind.ensures W ∙ e) in
    record { adds = added-nothing (λ C. at_other (tree_of C.view) _ (no-entry C.view)); chaining = λ C. chains-skip C.view.image C.chains (other-not-new C.view.image _ (no-entry C.view)) }

pub entry_key-key-requires : goal.entry_key-key-requires
entry_key-key-requires c =
    let is_entry : (W : View c.args.nodes.now 0) → (tree_of W).kind c.args.item ≡ 9 = λ W. sym (c.kind.ensures W) ∙ c.if-kind-ne-ENTRY.false in
    let W = c.requires.0.view in record { view = W; here = c.requires.1; low = c.requires.2; is = is_entry W }

pub first_signed-first-requires : goal.first_signed-first-requires
first_signed-first-requires c =
    let is_entry : (W : View c.args.nodes.now 0) → (tree_of W).kind c.args.item ≡ 9 = λ W. sym (c.kind.ensures W) ∙ c.if-kind-ne-ENTRY.false in
    let Given : Type 0 = Chained c.args.nodes.now c.args.item c.args.kept.now in
    let sought : (C : Given) → Sought c.args.nodes.now c.args.item c.entry_key-key.result c.args.kept.now = λ C. record {
      it = record { view = C.view; here = c.requires.1; low = c.requires.2; is = is_entry C.view };
      of_e = c.entry_key-key.ensures C.view;
      chains = C.chains;
    } in
    sought c.requires.0
