-- `mark_clause` meets its contract: a clause of another kind is left out, and all below a Writes clause are Names.
use borrow.Author.Rules.{rules}
use mathlib.Core.Path.{◌≡◌, sym, ◌∙◌}
use mathlib.Core.Logic.{inl}
use Rattle.rules.specs.Sweep.{same}
use Rattle.rules.specs.Tree.{name}
use Rattle.records.proofs.Sweep.{has_one, has-not}
use Rattle.nodes.specs.Shown.{View, tree_of}
use Rattle.nodes.proofs.Flat.{listed-name}
use Rattle.nodes.proofs.Turns.{marks-skip, marks-keep}
use Rattle.nodes.proofs.Walks.{each_on}
use Rattle.nodes.proofs.Walking.{walk-on, marks-start, marks-done}
use Rattle.access.specs.Seen.{clause_has}
use Rattle.access.proofs.mark_clause.Goals as goal

pub mark-requires : goal.mark-requires
mark-requires c =
    let is_name : (W : View c.args.nodes.now 0) → (tree_of W).kind c.loop-p.p ≡ 23 = λ W. let i = c.loop-p.invariant.fold.low in
    let e = c.end-end.ensures W in
    listed-name W c.requires.1 (sym (c.kind.ensures W) ∙ c.if-kind-ne-WRITES.false) _ (search rules) (search rules) in
    let W = c.requires.0 in record { view = W; here = search rules; carries = inl (is_name W) }

pub loop-p-preserved : goal.loop-p-preserved
loop-p-preserved c =
    let is_name : (W : View c.args.nodes.now 0) → (tree_of W).kind c.loop-p.p ≡ 23 = λ W. let i = c.loop-p.invariant.fold.low in
    let e = c.end-end.ensures W in
    listed-name W c.requires.1 (sym (c.kind.ensures W) ∙ c.if-kind-ne-WRITES.false) _ (search rules) (search rules) in
    walk-on c.requires.0 c.requires.1 c.end-end.ensures c.loop-p.invariant c.loop-p-test.true (λ W. each_on W (search rules) name) (λ W P M. marks-keep _ P (λ w n. same ((tree_of W).text n) w) c.loop-p.p (has_one _ 23 (is_name W)) (c.mark.ensures W P M))

pub returns : goal.returns
returns c = λ W P M. marks-keep _ P (clause_has (tree_of W)) c.args.clause (has_one _ 14 (sym (c.kind.ensures W) ∙ c.if-kind-ne-WRITES.false)) (marks-done c.end-end.ensures c.loop-p.invariant c.loop-p-test.false W P M)

pub returns-then-kind-ne-WRITES : goal.returns-then-kind-ne-WRITES
returns-then-kind-ne-WRITES c = λ W P M. marks-skip _ P (clause_has (tree_of W)) c.args.clause (has-not _ 14 (λ e. c.if-kind-ne-WRITES.true (c.kind.ensures W ∙ e))) M

pub loop-p-init : goal.loop-p-init
loop-p-init c = marks-start c.end-end.ensures c.requires.0 c.requires.1
