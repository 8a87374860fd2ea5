-- `tree` meets its contract: node 0, then the walk. The code's tables are those of the definitions, by computation.
use native.Mathlib.Omega.{arith}
use Prim.Native.Nat.{ℕ}
use mathlib.Core.Path.{refl, sym, ap, ◌∙◌}
use mathlib.Core.Bool.{Bool, true}
use mathlib.Core.List.{List}
use lib.ListN.{set, length-replicate}
use Rattle.image.specs.Node.{name_of}
use Rattle.image.specs.Digits.{family_of, part_at, states, state_of, kind_facts, kinds_from, kind_table, Rooted}
use Rattle.image.specs.Tree.{carries}
use Rattle.image.proofs.Tree.{fields-small}
use Rattle.admission.proofs.Stack.{root-fit, root-unfit}
use Rattle.admission.proofs.Walking.{refused, whole}
use Rattle.admission.proofs.tree.Goals as goal

pub root_ok-requires : goal.root_ok-requires
unfolding kind_table kinds_from kind_facts part_at state_of states family_of carries
root_ok-requires c = (omega arith, c.requires.4, c.requires.5, refl)

pub returns-then-not-root_ok : goal.returns-then-not-root_ok
returns-then-not-root_ok c =
    let t = let a = c.args in
    let unlike = sym c.if-not-root_ok.true ∙ c.root_ok.ensures in
    refused a.parts.now.nodes.now a.parts.now.names.now a.parts.now.text.now a.parts.now.n a.parts.now.m _ (root-unfit a.parts.now.nodes.now a.parts.now.names.now a.parts.now.text.now a.parts.now.n a.parts.now.m c.requires.0 unlike) in record { value = t.0; false_after = t.1 }

pub mark-requires : goal.mark-requires
mark-requires c =
    let rooted : let a = c.args in Rooted a.parts.now.nodes.now a.parts.now.names.now a.parts.now.text.now a.parts.now.n a.parts.now.m = root-fit _ _ _ _ _ c.requires.0 (sym c.if-not-root_ok.false ∙ c.root_ok.ensures) in
    (omega arith, fields-small _ _ _ _ _ c.requires.2 (sym (rooted).fields))

pub walk-requires : goal.walk-requires
unfolding kind_table kinds_from kind_facts part_at state_of states family_of carries
walk-requires c =
    let rooted : let a = c.args in Rooted a.parts.now.nodes.now a.parts.now.names.now a.parts.now.text.now a.parts.now.n a.parts.now.m = root-fit _ _ _ _ _ c.requires.0 (sym c.if-not-root_ok.false ∙ c.root_ok.ensures) in
    let p = c.requires in
    let a = c.args in
    let fresh = c.mark.ensures ∙ ap (λ (l : List Bool). set l (name_of a.parts.now.nodes.now 0) true) p.6 in
    let long = length-replicate {A = ℕ} 2048 0 in
    (p.1, p.2, p.3, p.4, p.5, refl, c.transitions-nexts.ensures, rooted, record { states_long = long; ends_long = long; fresh = fresh })

pub returns : goal.returns
returns c =
    let rooted : let a = c.args in Rooted a.parts.now.nodes.now a.parts.now.names.now a.parts.now.text.now a.parts.now.n a.parts.now.m = root-fit _ _ _ _ _ c.requires.0 (sym c.if-not-root_ok.false ∙ c.root_ok.ensures) in
    let t = whole c.args.parts.now.nodes.now c.args.parts.now.names.now c.args.parts.now.text.now c.args.parts.now.n c.args.parts.now.m rooted _ (c.walk.ensures.value, c.walk.ensures.false_after) in
    record { value = t.0; false_after = t.1 }
