-- `meets` meets its contract: no Entry, a name that was met, or a new name.
use native.Mathlib.Omega.{arith}
use Prim.Native.Nat.{◌+◌}
use mathlib.Core.Path.{◌≡◌, refl, sym, ◌∙◌}
use mathlib.Core.Bool.{true≢false}
use Rattle.nodes.proofs.Turns.{named-at}
use Rattle.nodes.specs.Shown.{View, Worded, tree_of}
use Rattle.rules.specs.Sweep.{has}
use Rattle.resolve_overloads.proofs.Sought.{at_none, at_other, fresh-name, seen-new, seen_other}
use Rattle.resolve_overloads.proofs.meets.Goals as goal

pub returns-then-kind-ne-ENTRY : goal.returns-then-kind-ne-ENTRY
returns-then-kind-ne-ENTRY c =
    let no-entry : (W : View c.args.nodes.now 0) → (tree_of W).kind c.args.item ≡ 9 → ⊥ = λ W e. c.if-kind-ne-ENTRY.true (c.kind.ensures W ∙ e) in
    λ S e. (at_other (tree_of S.view) _ (no-entry S.view), seen_other S.view _ (no-entry S.view) S.marks)

pub is_marked-requires : goal.is_marked-requires
unfolding has
is_marked-requires c =
    let is_entry : (W : View c.args.nodes.now 0) → (tree_of W).kind c.args.item ≡ 9 = λ W. sym (c.kind.ensures W) ∙ c.if-kind-ne-ENTRY.false in
    let worded : Worded c.args.nodes.now 0 (c.args.item + 1) = let W = c.requires.0.view in named-at W c.requires.2 (omega arith, refl) (is_entry W) in
    worded

pub returns-then-is_marked : goal.returns-then-is_marked
returns-then-is_marked c = λ S e. absurd (true≢false e)

pub mark-requires : goal.mark-requires
unfolding has
mark-requires c =
    let is_entry : (W : View c.args.nodes.now 0) → (tree_of W).kind c.args.item ≡ 9 = λ W. sym (c.kind.ensures W) ∙ c.if-kind-ne-ENTRY.false in
    let worded : Worded c.args.nodes.now 0 (c.args.item + 1) = let W = c.requires.0.view in named-at W c.requires.2 (omega arith, refl) (is_entry W) in
    worded

pub returns : goal.returns
returns c =
    let is_entry : (W : View c.args.nodes.now 0) → (tree_of W).kind c.args.item ≡ 9 = λ W. sym (c.kind.ensures W) ∙ c.if-kind-ne-ENTRY.false in
    λ S e. let W = S.view in
    let k = is_entry W in (
      at_none (tree_of W) _ k refl (fresh-name W c.requires.2 k (sym (c.is_marked.ensures W _ S.marks) ∙ c.if-is_marked.false)),
      seen-new W c.requires.2 k S.marks (c.mark.ensures W _ S.marks),
    )
