-- `judge` meets its contract: refusals 5 to 8 in their order, each from the test that settles it.
use borrow.Author.Rules.{rules}
use native.Mathlib.Omega.{arith}
use mathlib.Core.Path.{◌≡◌, refl, ◌∙◌, sym}
use mathlib.Core.Bool.{true}
use Rattle.image.specs.Admit.{body_refusal}
use Rattle.image.specs.Text.{names_ok}
use Rattle.image.specs.Digits.{mark_at}
use Rattle.image.specs.Tree.{tree_ok, depth_ok, used_in, used_ok}
use Rattle.image.proofs.Every.{every-alike}
use Rattle.std.proofs.lemmas.Result.{err_from_is_err_and}
use Rattle.image.proofs.Refusals.{positive}
use Rattle.image.proofs.Verdict.{tree-refused, tree-passed}
use Rattle.admission.proofs.judge.Goals as goal

pub returns-then-not-names_ok : goal.returns-then-not-names_ok
unfolding body_refusal
returns-then-not-names_ok c = simp (sym c.names_ok.ensures ∙ c.if-not-names_ok.true)

pub tree-requires : goal.tree-requires
tree-requires c =
    let named : names_ok c.args.names.now c.args.text.now c.args.m ≡ true = sym c.names_ok.ensures ∙ c.if-not-names_ok.false in
    (search rules, search rules, search rules, search rules, search rules, named, refl)

pub returns-in_err-tree : goal.returns-in_err-tree
unfolding body_refusal
returns-in_err-tree c =
    let named : names_ok c.args.names.now c.args.text.now c.args.m ≡ true = sym c.names_ok.ensures ∙ c.if-not-names_ok.false in
    let p = err_from_is_err_and c.from_residual.result c.from_residual.ensures.1 in
    let a = c.args in rw (p.1, p.2) (simp (named) (tree-refused (tree_ok a.nodes.now a.names.now a.text.now a.n a.m) (depth_ok a.nodes.now a.n) _ _ c.in_err-tree.ensures.value (positive _)))

pub returns-then-not-used_ok : goal.returns-then-not-used_ok
unfolding body_refusal mark_at
returns-then-not-used_ok c =
    let named : names_ok c.args.names.now c.args.text.now c.args.m ≡ true = sym c.names_ok.ensures ∙ c.if-not-names_ok.false in
    let used : c.used_ok.result ≡ used_ok c.args.nodes.now c.args.n c.args.m = let a = c.args in let l = c.requires.4 in c.used_ok.ensures ∙ every-alike (mark_at c.tree.new.marks) (used_in a.nodes.now a.n) a.m (λ k h. c.in_ok-tree.ensures.false_after refl k (omega arith)) in
    let a = c.args in let t = tree-passed (tree_ok a.nodes.now a.names.now a.text.now a.n a.m) (depth_ok a.nodes.now a.n) _ c.in_ok-tree.ensures.value refl in simp (named, t.0, t.1, sym (used) ∙ c.if-not-used_ok.true)

pub returns : goal.returns
unfolding body_refusal mark_at
returns c =
    let named : names_ok c.args.names.now c.args.text.now c.args.m ≡ true = sym c.names_ok.ensures ∙ c.if-not-names_ok.false in
    let used : c.used_ok.result ≡ used_ok c.args.nodes.now c.args.n c.args.m = let a = c.args in let l = c.requires.4 in c.used_ok.ensures ∙ every-alike (mark_at c.tree.new.marks) (used_in a.nodes.now a.n) a.m (λ k h. c.in_ok-tree.ensures.false_after refl k (omega arith)) in
    let a = c.args in let t = tree-passed (tree_ok a.nodes.now a.names.now a.text.now a.n a.m) (depth_ok a.nodes.now a.n) _ c.in_ok-tree.ensures.value refl in simp (named, t.0, t.1, sym (used) ∙ c.if-not-used_ok.false)
