-- `tell_mark` meets its contract: a node of another kind, a parameter of another row's name, one that is not burned, or one that is.
use native.Mathlib.Omega.{arith}
use Prim.Native.Nat.{ℕ, ◌+◌}
use mathlib.Core.Path.{◌≡◌, refl, sym, ap, ◌∙◌}
use mathlib.Core.List.{[], ◌∷◌}
use Rattle.rules.specs.Sweep.{has}
use Rattle.nodes.specs.Shown.{View, tree_of}
use Rattle.nodes.proofs.Turns.{named-at}
use Rattle.lot_words.proofs.Words.{wrote_as, told-nothing}
use Rattle.lot_words.proofs.Marks.{clause-told, mark-other, mark-elsewhere, mark-not, mark-so}
use Rattle.lot_words.proofs.tell_mark.Goals as goal

pub returns-then-kind-ne-PARAM : goal.returns-then-kind-ne-PARAM
returns-then-kind-ne-PARAM c = let g = c.args in (λ T. let W = T.clausal.view in told-nothing (mark-other (tree_of W) g.entry T.row_of g.row g.p (λ e. c.if-kind-ne-PARAM.true (c.kind.ensures W ∙ e))), omega arith)

pub at-requires : goal.at-requires
unfolding has
at-requires c =
    let is-param : (W : View c.args.nodes.now 0) → (tree_of W).kind c.args.p ≡ 10 = λ W. sym (c.kind.ensures W) ∙ c.if-kind-ne-PARAM.false in
    let W = c.requires.0.clausal.view in named-at W c.requires.1 (omega arith, refl) (is-param W)

pub returns-then-at-row : goal.returns-then-at-row
returns-then-at-row c =
    let is-param : (W : View c.args.nodes.now 0) → (tree_of W).kind c.args.p ≡ 10 = λ W. sym (c.kind.ensures W) ∙ c.if-kind-ne-PARAM.false in
    let g = c.args in
    let z = c.requires.2 in
    let n = c.if-at-row.true in
    let r = c.at.ensures.1 in
    (λ T. let W = T.clausal.view in told-nothing (mark-elsewhere (tree_of W) g.entry T.row_of g.row g.p (is-param W) z (λ e. n (r W T.row_of T.noted ∙ e))), omega arith)

pub clause_of-clause-requires : goal.clause_of-clause-requires
clause_of-clause-requires c =
    let is-param : (W : View c.args.nodes.now 0) → (tree_of W).kind c.args.p ≡ 10 = λ W. sym (c.kind.ensures W) ∙ c.if-kind-ne-PARAM.false in
    (c.requires.0.clausal, c.requires.1, λ W. is-param W)

pub returns-then-clause-eq0 : goal.returns-then-clause-eq0
returns-then-clause-eq0 c =
    let is-param : (W : View c.args.nodes.now 0) → (tree_of W).kind c.args.p ≡ 10 = λ W. sym (c.kind.ensures W) ∙ c.if-kind-ne-PARAM.false in
    let g = c.args in
    let z = c.if-clause-eq0.true in
    let r = c.clause_of-clause.ensures.1 in
    (λ T. let W = T.clausal.view in told-nothing (mark-not (tree_of W) g.entry T.row_of g.row g.p (is-param W) ((clause-told (tree_of W) g.entry g.p (r T.clausal)).0 z)), omega arith)

pub tell-requires : goal.tell-requires
tell-requires c = let h = c.clause_of-clause.ensures.0 in (c.requires.3, omega arith)

pub returns : goal.returns
returns c =
    let is-param : (W : View c.args.nodes.now 0) → (tree_of W).kind c.args.p ≡ 10 = λ W. sym (c.kind.ensures W) ∙ c.if-kind-ne-PARAM.false in
    let g = c.args in
    let z = c.requires.2 in
    let row = c.at.ensures.1 in
    let this = c.if-at-row.false in
    let clause = c.clause_of-clause.ensures.1 in
    let there = c.if-clause-eq0.false in
    let w = c.tell.ensures in (
      λ T.
          let W = T.clausal.view in
          let q = (clause-told (tree_of W) g.entry g.p (clause T.clausal)).1 there in
          let so = mark-so (tree_of W) g.entry T.row_of g.row g.p (is-param W) z (sym (row W T.row_of T.noted) ∙ this) q.0 in
          wrote_as (ap (λ (n : ℕ). (n + 1) ∷ 0 ∷ []) q.1 ∙ sym so) (w.0 tt),
      w.1,
    )
