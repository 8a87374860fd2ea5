-- `rule33` meets its contract: at each return, the tests passed so far say what the rule says.
use Prim.Native.Nat.{◌+◌, ◌<◌}
use mathlib.Core.Logic.{inr}
use mathlib.Core.Path.{◌∙◌, ◌≡◌, refl, sym}
use native.Mathlib.Omega.{arith}
use Rattle.nodes.proofs.Shapes.{first-in, within-or}
use Rattle.nodes.specs.Shown.{In, View, tree_of}
use Rattle.resolve_clauses.proofs.Names.{ident-33, no-ident-33, other-33, over-33}
use Rattle.rules.specs.Sweep.{has}
use Rattle.resolve_clauses.proofs.rule33.Goals as goal

pub returns-then-kind-ne-ASSIGN : goal.returns-then-kind-ne-ASSIGN
returns-then-kind-ne-ASSIGN c = λ T. other-33 (tree_of T.view) _ (λ e. c.if-kind-ne-ASSIGN.true (c.kind.ensures T.view ∙ e))

pub returns-then-end-root : goal.returns-then-end-root
returns-then-end-root c =
    let is-assign : (W : View c.args.nodes.now 0) → (tree_of W).kind c.args.p ≡ 27 = λ W. sym (c.kind.ensures W) ∙ c.if-kind-ne-ASSIGN.false in
    λ T. let W = T.view in over-33 (tree_of W) _ (is-assign W) (c.down-root.ensures.1 W) (let d = c.end.ensures W in let h = c.if-end-root.true in omega arith)

pub returns-then-kind-ne-IDENT : goal.returns-then-kind-ne-IDENT
returns-then-kind-ne-IDENT c =
    let is-assign : (W : View c.args.nodes.now 0) → (tree_of W).kind c.args.p ≡ 27 = λ W. sym (c.kind.ensures W) ∙ c.if-kind-ne-ASSIGN.false in
    let before-end : (W : View c.args.nodes.now 0) → c.down-root.result < (tree_of W).end (c.args.p + 1) = λ W. let d = c.end.ensures W in let h = c.if-end-root.false in omega arith in
    λ T. let W = T.view in no-ident-33 (tree_of W) _ (is-assign W) (c.down-root.ensures.1 W) (before-end W) (λ e. c.if-kind-ne-IDENT.true (c.kind-2.ensures W ∙ e))

pub returns : goal.returns
returns c =
    let is-assign : (W : View c.args.nodes.now 0) → (tree_of W).kind c.args.p ≡ 27 = λ W. sym (c.kind.ensures W) ∙ c.if-kind-ne-ASSIGN.false in
    let before-end : (W : View c.args.nodes.now 0) → c.down-root.result < (tree_of W).end (c.args.p + 1) = λ W. let d = c.end.ensures W in let h = c.if-end-root.false in omega arith in
    λ T. let W = T.view in ident-33 (tree_of W) _ (is-assign W) (c.down-root.ensures.1 W) (before-end W) (sym (c.kind-2.ensures W) ∙ c.if-kind-ne-IDENT.false) (c.is_marked.ensures W _ T.state_marks)

pub down-root-requires : goal.down-root-requires
unfolding has
down-root-requires c =
    let is-assign : (W : View c.args.nodes.now 0) → (tree_of W).kind c.args.p ≡ 27 = λ W. sym (c.kind.ensures W) ∙ c.if-kind-ne-ASSIGN.false in
    let target : In c.args.nodes.now 0 (c.args.p + 1) = let W = c.requires.0 in first-in W c.requires.1 27 (is-assign W) (omega arith) refl in
    (c.requires.0, target)

pub end-requires : goal.end-requires
unfolding has
end-requires c =
    let is-assign : (W : View c.args.nodes.now 0) → (tree_of W).kind c.args.p ≡ 27 = λ W. sym (c.kind.ensures W) ∙ c.if-kind-ne-ASSIGN.false in
    let target : In c.args.nodes.now 0 (c.args.p + 1) = let W = c.requires.0 in first-in W c.requires.1 27 (is-assign W) (omega arith) refl in
    target

pub kind-requires-2 : goal.kind-requires-2
unfolding has
kind-requires-2 c =
    let is-assign : (W : View c.args.nodes.now 0) → (tree_of W).kind c.args.p ≡ 27 = λ W. sym (c.kind.ensures W) ∙ c.if-kind-ne-ASSIGN.false in
    let target : In c.args.nodes.now 0 (c.args.p + 1) = let W = c.requires.0 in first-in W c.requires.1 27 (is-assign W) (omega arith) refl in
    let before-end : (W : View c.args.nodes.now 0) → c.down-root.result < (tree_of W).end (c.args.p + 1) = λ W. let d = c.end.ensures W in let h = c.if-end-root.false in omega arith in
    let here : In c.args.nodes.now 0 c.down-root.result = let W = c.requires.0 in within-or W (target) c.down-root.ensures.0 (before-end W) in
    here

pub is_marked-requires : goal.is_marked-requires
unfolding has
is_marked-requires c =
    let is-assign : (W : View c.args.nodes.now 0) → (tree_of W).kind c.args.p ≡ 27 = λ W. sym (c.kind.ensures W) ∙ c.if-kind-ne-ASSIGN.false in
    let target : In c.args.nodes.now 0 (c.args.p + 1) = let W = c.requires.0 in first-in W c.requires.1 27 (is-assign W) (omega arith) refl in
    let before-end : (W : View c.args.nodes.now 0) → c.down-root.result < (tree_of W).end (c.args.p + 1) = λ W. let d = c.end.ensures W in let h = c.if-end-root.false in omega arith in
    let here : In c.args.nodes.now 0 c.down-root.result = let W = c.requires.0 in within-or W (target) c.down-root.ensures.0 (before-end W) in
    record { view = c.requires.0; here = here; carries = inr (sym (c.kind-2.ensures c.requires.0) ∙ c.if-kind-ne-IDENT.false) }
