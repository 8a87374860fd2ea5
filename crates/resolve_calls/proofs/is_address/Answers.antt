-- `is_address` meets its contract: at each return, the tests passed so far say where the callee ends.
use native.Mathlib.Omega.{arith}
use mathlib.Core.Path.{◌≡◌, ◌∙◌, sym}
use mathlib.Core.Logic.{inr}
use Prim.Native.Nat.{◌<◌}
use Rattle.nodes.specs.Shown.{View, In, Worded, tree_of}
use Rattle.nodes.proofs.Shapes.{within-or}
use Rattle.resolve_calls.proofs.Laws.{ends-over, ends-caller, ends-other, ends-ident}
use Rattle.resolve_calls.proofs.is_address.Goals as goal

pub returns-then-end-bottom : goal.returns-then-end-bottom
returns-then-end-bottom c = λ T. let W = T.view in sym (ends-over (tree_of W) T.entry _ _ (c.down-bottom.ensures.1 W) (let d = c.end.ensures W in omega arith))

pub returns-then-is_marked : goal.returns-then-is_marked
returns-then-is_marked c =
    let before-end : (W : View c.args.nodes.now c.args.base) → c.down-bottom.result < (tree_of W).end c.args.x = λ W. let d = c.end.ensures W in omega arith in
    let is-ident : (W : View c.args.nodes.now c.args.base) → (tree_of W).kind c.down-bottom.result ≡ 35 = λ W. sym (c.kind.ensures W) ∙ c.in-35.is in
    λ T.
    let W = T.view in
    sym (ends-ident (tree_of W) T.entry _ _ (c.down-bottom.ensures.1 W) (before-end W) (is-ident W) (sym (c.is_marked.ensures W _ T.field_marks) ∙ c.if-is_marked.true))

pub returns-in-36 : goal.returns-in-36
returns-in-36 c =
    let before-end : (W : View c.args.nodes.now c.args.base) → c.down-bottom.result < (tree_of W).end c.args.x = λ W. let d = c.end.ensures W in omega arith in
    λ T. let W = T.view in sym (ends-caller (tree_of W) T.entry _ _ (c.down-bottom.ensures.1 W) (before-end W) (sym (c.kind.ensures W) ∙ c.in-36.is))

pub returns-else-is_marked : goal.returns-else-is_marked
returns-else-is_marked c =
    let before-end : (W : View c.args.nodes.now c.args.base) → c.down-bottom.result < (tree_of W).end c.args.x = λ W. let d = c.end.ensures W in omega arith in
    let is-ident : (W : View c.args.nodes.now c.args.base) → (tree_of W).kind c.down-bottom.result ≡ 35 = λ W. sym (c.kind.ensures W) ∙ c.in-35.is in
    λ T.
    let W = T.view in
    c.is_marked-in-35.ensures W _ T.param_marks
    ∙ sym (ends-ident (tree_of W) T.entry _ _ (c.down-bottom.ensures.1 W) (before-end W) (is-ident W) (sym (c.is_marked.ensures W _ T.field_marks) ∙ c.if-is_marked.false))

pub returns-in_default : goal.returns-in_default
returns-in_default c =
    let before-end : (W : View c.args.nodes.now c.args.base) → c.down-bottom.result < (tree_of W).end c.args.x = λ W. let d = c.end.ensures W in omega arith in
    λ T.
    let W = T.view in
    let k = c.kind.ensures W in
    sym (ends-other (tree_of W) T.entry _ _ (c.down-bottom.ensures.1 W) (before-end W) (λ e. let f = k ∙ e in omega arith) (λ e. let f = k ∙ e in omega arith))

pub kind-requires : goal.kind-requires
kind-requires c =
    let before-end : (W : View c.args.nodes.now c.args.base) → c.down-bottom.result < (tree_of W).end c.args.x = λ W. let d = c.end.ensures W in omega arith in
    let bottom-in : In c.args.nodes.now c.args.base c.down-bottom.result = let W = c.requires.0.view in within-or W c.requires.1 c.down-bottom.ensures.0 (before-end W) in
    bottom-in

pub is_marked-requires : goal.is_marked-requires
is_marked-requires c =
    let before-end : (W : View c.args.nodes.now c.args.base) → c.down-bottom.result < (tree_of W).end c.args.x = λ W. let d = c.end.ensures W in omega arith in
    let bottom-in : In c.args.nodes.now c.args.base c.down-bottom.result = let W = c.requires.0.view in within-or W c.requires.1 c.down-bottom.ensures.0 (before-end W) in
    let is-ident : (W : View c.args.nodes.now c.args.base) → (tree_of W).kind c.down-bottom.result ≡ 35 = λ W. sym (c.kind.ensures W) ∙ c.in-35.is in
    let worded : Worded c.args.nodes.now c.args.base c.down-bottom.result = let W = c.requires.0.view in record { view = W; here = bottom-in; carries = inr (is-ident W) } in
    worded

pub is_marked-requires-in-35 : goal.is_marked-requires-in-35
is_marked-requires-in-35 c =
    let before-end : (W : View c.args.nodes.now c.args.base) → c.down-bottom.result < (tree_of W).end c.args.x = λ W. let d = c.end.ensures W in omega arith in
    let bottom-in : In c.args.nodes.now c.args.base c.down-bottom.result = let W = c.requires.0.view in within-or W c.requires.1 c.down-bottom.ensures.0 (before-end W) in
    let is-ident : (W : View c.args.nodes.now c.args.base) → (tree_of W).kind c.down-bottom.result ≡ 35 = λ W. sym (c.kind.ensures W) ∙ c.in-35.is in
    let worded : Worded c.args.nodes.now c.args.base c.down-bottom.result = let W = c.requires.0.view in record { view = W; here = bottom-in; carries = inr (is-ident W) } in
    worded
