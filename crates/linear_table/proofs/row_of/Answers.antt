-- `row_of` meets its contract: the name is that of the row's node.
use native.Mathlib.Omega.{arith}
use Prim.Native.Nat.{ℕ, ◌+◌, ◌≤◌}
use mathlib.Core.Path.{◌≡◌, refl, sym, subst}
use Rattle.nodes.specs.Shown.{Worded}
use Rattle.nodes.proofs.Turns.{numbered}
use Rattle.linear_tracked.specs.Rows.{PlaceOf}
use Rattle.linear_tracked.proofs.Place.{name-worded}
use Rattle.linear_table.proofs.row_of.Goals as goal

pub returns : goal.returns
returns c =
    λ T.
    let q : c.name_at-p.result ≡ T.row + 1 = subst (λ (p : ℕ). (U : PlaceOf c.args.nodes.now p) → c.name_at-p.result ≡ U.row + 1) c.from.ensures c.name_at-p.ensures T in
    rw (c.name-name.ensures T.view, q) refl

pub name_at-p-requires : goal.name_at-p-requires
name_at-p-requires c =
    let placed : PlaceOf c.args.nodes.now c.from.result = subst (PlaceOf c.args.nodes.now) (sym c.from.ensures) c.requires in
    placed

pub name-name-requires : goal.name-name-requires
name-name-requires c =
    let placed : PlaceOf c.args.nodes.now c.from.result = subst (PlaceOf c.args.nodes.now) (sym c.from.ensures) c.requires in
    let worded : Worded c.args.nodes.now 0 c.name_at-p.result = let T = placed in subst (Worded c.args.nodes.now 0) (sym (c.name_at-p.ensures T)) (name-worded T) in
    (worded).here

pub overflow_cast-name : goal.overflow_cast-name
overflow_cast-name c =
    let placed : PlaceOf c.args.nodes.now c.from.result = subst (PlaceOf c.args.nodes.now) (sym c.from.ensures) c.requires in
    let worded : Worded c.args.nodes.now 0 c.name_at-p.result = let T = placed in subst (Worded c.args.nodes.now 0) (sym (c.name_at-p.ensures T)) (name-worded T) in
    let small : (1 ≤ c.name-name.result) × (c.name-name.result ≤ 1024) = numbered (worded) c.name-name.ensures in
    let h = small in omega arith
