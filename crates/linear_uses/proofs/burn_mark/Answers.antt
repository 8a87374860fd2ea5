-- `burn_mark` meets its contract: a node of another kind, a parameter whose type has no name inside it, or one whose name the entry burns or does not.
use native.Mathlib.Omega.{arith}
use Prim.Native.Nat.{◌+◌, ◌<◌}
use mathlib.Core.Path.{◌≡◌, refl, sym, ◌∙◌}
use mathlib.Core.Logic.{inl}
use Rattle.rules.specs.Sweep.{has}
use Rattle.rules.specs.Linear.{is_burned}
use Rattle.nodes.specs.Shown.{View, In, Worded, tree_of}
use Rattle.nodes.proofs.Turns.{named-at}
use Rattle.linear_parts.proofs.Parts.{param-type}
use Rattle.linear_uses.specs.Uses.{Burning, burned_in}
use Rattle.linear_uses.proofs.Burns.{assets-of, burned_none, burned-one, burn-other, burn-not, burn-so}
use Rattle.linear_uses.proofs.burn_mark.Goals as goal

pub returns-then-kind-ne-PARAM : goal.returns-then-kind-ne-PARAM
returns-then-kind-ne-PARAM c = λ T M t. burn-other (tree_of T.on_rows.view) c.args.entry T.on_rows.row_of c.args.p M (λ e. c.if-kind-ne-PARAM.true (c.kind.ensures T.on_rows.view ∙ e)) t

pub inner_of-inner-requires : goal.inner_of-inner-requires
inner_of-inner-requires c =
    let is-param : (W : View c.args.nodes.now 0) → (tree_of W).kind c.args.p ≡ 10 = λ W. sym (c.kind.ensures W) ∙ c.if-kind-ne-PARAM.false in
    let type-of : (W : View c.args.nodes.now 0) → In c.args.nodes.now 0 (c.args.p + 2) × ((tree_of W).kind (c.args.p + 2) ≡ 11) = λ W. let f = param-type W c.requires.1 (is-param W) in (f.0, f.1) in
    (assets-of c.requires.0, (type-of c.requires.0.on_rows.view).0)

pub returns-then-inner-eq0 : goal.returns-then-inner-eq0
returns-then-inner-eq0 c =
    let is-param : (W : View c.args.nodes.now 0) → (tree_of W).kind c.args.p ≡ 10 = λ W. sym (c.kind.ensures W) ∙ c.if-kind-ne-PARAM.false in
    let type-of : (W : View c.args.nodes.now 0) → In c.args.nodes.now 0 (c.args.p + 2) × ((tree_of W).kind (c.args.p + 2) ≡ 11) = λ W. let f = param-type W c.requires.1 (is-param W) in (f.0, f.1) in
    λ T M t.
    let W = T.on_rows.view in
    burn-not (tree_of W) c.args.entry T.on_rows.row_of c.args.p M (is-param W) (burned_none (assets-of T) c.args.entry c.args.p (type-of W).1 (c.inner_of-inner.ensures (assets-of T)) c.if-inner-eq0.true) t

pub mark_row-requires : goal.mark_row-requires
unfolding has
mark_row-requires c =
    let is-param : (W : View c.args.nodes.now 0) → (tree_of W).kind c.args.p ≡ 10 = λ W. sym (c.kind.ensures W) ∙ c.if-kind-ne-PARAM.false in
    let P = c.requires in
    let W = P.0.on_rows.view in
    (P.0.on_rows, named-at W P.1 (omega arith, refl) (is-param W), P.2)

pub returns-then-is_marked : goal.returns-then-is_marked
returns-then-is_marked c =
    let is-param : (W : View c.args.nodes.now 0) → (tree_of W).kind c.args.p ≡ 10 = λ W. sym (c.kind.ensures W) ∙ c.if-kind-ne-PARAM.false in
    let type-of : (W : View c.args.nodes.now 0) → In c.args.nodes.now 0 (c.args.p + 2) × ((tree_of W).kind (c.args.p + 2) ≡ 11) = λ W. let f = param-type W c.requires.1 (is-param W) in (f.0, f.1) in
    let asked : (T : Burning c.args.nodes.now c.args.entry c.args.asset c.args.burned.now c.args.rows.now) → is_burned (tree_of T.on_rows.view) c.args.entry c.args.p ≡ c.is_marked.result = λ T. let W = T.on_rows.view in
    let n = c.if-inner-eq0.false in
    burned-one (assets-of T) c.args.entry c.args.p (type-of W).1 (c.inner_of-inner.ensures (assets-of T)) (omega (arith, n))
    ∙ sym (c.is_marked.ensures W (burned_in (tree_of W) c.args.entry) T.burned_marks) in
    λ T M t.
    let W = T.on_rows.view in
    burn-so (tree_of W) c.args.entry T.on_rows.row_of c.args.p M (is-param W) (asked T ∙ c.if-is_marked.true) (c.mark_row.ensures T.on_rows M c.args.p t)

pub returns-else-is_marked : goal.returns-else-is_marked
returns-else-is_marked c =
    let is-param : (W : View c.args.nodes.now 0) → (tree_of W).kind c.args.p ≡ 10 = λ W. sym (c.kind.ensures W) ∙ c.if-kind-ne-PARAM.false in
    let type-of : (W : View c.args.nodes.now 0) → In c.args.nodes.now 0 (c.args.p + 2) × ((tree_of W).kind (c.args.p + 2) ≡ 11) = λ W. let f = param-type W c.requires.1 (is-param W) in (f.0, f.1) in
    let asked : (T : Burning c.args.nodes.now c.args.entry c.args.asset c.args.burned.now c.args.rows.now) → is_burned (tree_of T.on_rows.view) c.args.entry c.args.p ≡ c.is_marked.result = λ T. let W = T.on_rows.view in
    let n = c.if-inner-eq0.false in
    burned-one (assets-of T) c.args.entry c.args.p (type-of W).1 (c.inner_of-inner.ensures (assets-of T)) (omega (arith, n))
    ∙ sym (c.is_marked.ensures W (burned_in (tree_of W) c.args.entry) T.burned_marks) in
    λ T M t.
    let W = T.on_rows.view in
    burn-not (tree_of W) c.args.entry T.on_rows.row_of c.args.p M (is-param W) (asked T ∙ c.if-is_marked.false) t

pub is_marked-requires : goal.is_marked-requires
is_marked-requires c =
    let is_name : Worded c.args.nodes.now 0 c.inner_of-inner.result = let A = assets-of c.requires.0 in
    let I = c.inner_of-inner.ensures A in
    let n = c.if-inner-eq0.false in
    let l : 0 < c.inner_of-inner.result = omega (arith, n) in
    record { view = A.view; here = I.here l; carries = inl (I.name l) } in
    is_name
