-- `let_part` meets its contract: no value, a Call, an Ident, or another.
use borrow.Author.Rules.{rules}
use native.Mathlib.Omega.{arith}
use Prim.Native.Nat.{ℕ, ◌+◌, ◌<◌}
use mathlib.Core.Path.{◌≡◌, sym, ap, ◌∙◌}
use mathlib.Core.Bool.{not}
use mathlib.Core.Logic.{inr}
use borrow.Author.Tests.{eq-eqb, ne_eqb}
use Rattle.nodes.specs.Shown.{View, In, tree_of}
use Rattle.nodes.proofs.Shapes.{within-or}
use Rattle.linear_parts.proofs.Parts.{let-value, callee-in}
use Rattle.linear_parts.proofs.Questions.{let-over, let-other, let-call, let-ident}
use Rattle.linear_parts.proofs.Parts.{part_in}
use Rattle.linear_parts.proofs.Alias.{named-is}
use Rattle.linear_parts.proofs.let_part.Goals as goal

pub overflow_add-p : goal.overflow_add-p
overflow_add-p c = let h = (part_in c.requires.0).2 in omega arith

pub overflow_add-p-2 : goal.overflow_add-p-2
overflow_add-p-2 c = let h = (part_in c.requires.0).2 in omega arith

pub down-value-requires : goal.down-value-requires
down-value-requires c = let T = c.requires.0 in let W = T.known.view in (W, (let-value W (part_in T) (c.requires.1 W)).0)

pub end-requires : goal.end-requires
end-requires c = let T = c.requires.0 in let W = T.known.view in (let-value W (part_in T) (c.requires.1 W)).0

pub returns-then-end-value : goal.returns-then-end-value
returns-then-end-value c = λ T. let W = T.known.view in let-over (tree_of W) T.entry _ (c.requires.1 W) _ (c.down-value.ensures.1 W) (let e = c.end.ensures W in let h = c.if-end-value.true in omega arith)

pub kind-requires : goal.kind-requires
kind-requires c =
    let under : (W : View c.args.nodes.now 0) → c.down-value.result < (tree_of W).end (c.args.p + 2) = λ W. let e = c.end.ensures W in let h = c.if-end-value.false in omega arith in
    let value : In c.args.nodes.now 0 c.down-value.result = let T = c.requires.0 in let W = T.known.view in within-or W (let-value W (part_in T) (c.requires.1 W)).0 c.down-value.ensures.0 (under W) in
    value

pub overflow_add-value : goal.overflow_add-value
overflow_add-value c =
    let under : (W : View c.args.nodes.now 0) → c.down-value.result < (tree_of W).end (c.args.p + 2) = λ W. let e = c.end.ensures W in let h = c.if-end-value.false in omega arith in
    let value : In c.args.nodes.now 0 c.down-value.result = let T = c.requires.0 in let W = T.known.view in within-or W (let-value W (part_in T) (c.requires.1 W)).0 c.down-value.ensures.0 (under W) in
    let h = (value).2 in omega arith

pub is_maker-requires : goal.is_maker-requires
is_maker-requires c =
    let under : (W : View c.args.nodes.now 0) → c.down-value.result < (tree_of W).end (c.args.p + 2) = λ W. let e = c.end.ensures W in let h = c.if-end-value.false in omega arith in
    let value : In c.args.nodes.now 0 c.down-value.result = let T = c.requires.0 in let W = T.known.view in within-or W (let-value W (part_in T) (c.requires.1 W)).0 c.down-value.ensures.0 (under W) in
    let W = c.requires.0.known.view in (W, (callee-in W (value) (sym (c.kind.ensures W) ∙ c.in-43.is)).0)

pub at-requires : goal.at-requires
at-requires c =
    let under : (W : View c.args.nodes.now 0) → c.down-value.result < (tree_of W).end (c.args.p + 2) = λ W. let e = c.end.ensures W in let h = c.if-end-value.false in omega arith in
    let value : In c.args.nodes.now 0 c.down-value.result = let T = c.requires.0 in let W = T.known.view in within-or W (let-value W (part_in T) (c.requires.1 W)).0 c.down-value.ensures.0 (under W) in
    let W = c.requires.0.known.view in record { view = W; here = value; carries = inr (sym (c.kind.ensures W) ∙ c.in-35.is) }

-- a Call: what is answered of its callee
pub returns-then-is_maker : goal.returns-then-is_maker
returns-then-is_maker c =
    let under : (W : View c.args.nodes.now 0) → c.down-value.result < (tree_of W).end (c.args.p + 2) = λ W. let e = c.end.ensures W in let h = c.if-end-value.false in omega arith in
    λ T. let W = T.known.view in let f = let-call (tree_of W) T.entry _ (c.requires.1 W) _ (c.down-value.ensures.1 W) (under W) (sym (c.kind.ensures W) ∙ c.in-43.is) in (f.0 ∙ sym (c.is_maker.ensures T.known) ∙ c.if-is_maker.true, f.1)

pub returns-else-is_maker : goal.returns-else-is_maker
returns-else-is_maker c =
    let under : (W : View c.args.nodes.now 0) → c.down-value.result < (tree_of W).end (c.args.p + 2) = λ W. let e = c.end.ensures W in let h = c.if-end-value.false in omega arith in
    λ T. let W = T.known.view in let f = let-call (tree_of W) T.entry _ (c.requires.1 W) _ (c.down-value.ensures.1 W) (under W) (sym (c.kind.ensures W) ∙ c.in-43.is) in (f.0 ∙ sym (c.is_maker.ensures T.known) ∙ c.if-is_maker.false, f.1)

-- an Ident: whether a row is noted for its name
pub returns-then-at-eq0 : goal.returns-then-at-eq0
returns-then-at-eq0 c =
    let under : (W : View c.args.nodes.now 0) → c.down-value.result < (tree_of W).end (c.args.p + 2) = λ W. let e = c.end.ensures W in let h = c.if-end-value.false in omega arith in
    λ T. let W = T.known.view in let f = let-ident (tree_of W) T.entry _ (c.requires.1 W) _ (c.down-value.ensures.1 W) (under W) (sym (c.kind.ensures W) ∙ c.in-35.is) in (f.0, f.1 ∙ named-is T (c.requires.1 W) _ ∙ ap not (eq-eqb _ 0 (sym (c.at.ensures.1 W _ T.first_rows) ∙ c.if-at-eq0.true)))

pub returns-else-at-eq0 : goal.returns-else-at-eq0
returns-else-at-eq0 c =
    let under : (W : View c.args.nodes.now 0) → c.down-value.result < (tree_of W).end (c.args.p + 2) = λ W. let e = c.end.ensures W in let h = c.if-end-value.false in omega arith in
    λ T. let W = T.known.view in let f = let-ident (tree_of W) T.entry _ (c.requires.1 W) _ (c.down-value.ensures.1 W) (under W) (sym (c.kind.ensures W) ∙ c.in-35.is) in (f.0, f.1 ∙ named-is T (c.requires.1 W) _ ∙ ap not (ne_eqb _ 0 (λ z. c.if-at-eq0.false (c.at.ensures.1 W _ T.first_rows ∙ z))))

pub returns-in_default : goal.returns-in_default
returns-in_default c =
    let under : (W : View c.args.nodes.now 0) → c.down-value.result < (tree_of W).end (c.args.p + 2) = λ W. let e = c.end.ensures W in let h = c.if-end-value.false in omega arith in
    λ T. let W = T.known.view in
    let other : (n : ℕ) → (c.kind.result ≡ n → ⊥) → (tree_of W).kind c.down-value.result ≡ n → ⊥ = λ n o e. o (c.kind.ensures W ∙ e) in
    let-other (tree_of W) T.entry _ (c.requires.1 W) _ (c.down-value.ensures.1 W) (under W) (other 43 (search rules)) (other 35 (search rules))
