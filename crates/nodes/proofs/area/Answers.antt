-- `area` meets its contract: the nodes stand between the header and the names.
use Prim.Native.Nat.{ℕ}
use mathlib.Core.Path.{sym, subst}
use native.Mathlib.Omega.{arith}
use Rattle.image.specs.Text.{slice}
use Rattle.image.specs.Admit.{node_count}
use Rattle.nodes.specs.Shown.{Shown}
use Rattle.nodes.proofs.Heads.{bounds, shown}
use Rattle.nodes.proofs.area.Goals as goal

pub returns : goal.returns
returns c =
    let s = c.args.image.now in
    subst (λ (end : ℕ). Shown s (slice s 24 end) 0 (node_count s)) (sym c.names_at-end.ensures) (shown c.requires)

pub names_at-end-requires : goal.names_at-end-requires
names_at-end-requires c = let h = bounds c.requires in omega arith

pub slice_bounds-result-count : goal.slice_bounds-result-count
slice_bounds-result-count c = let h = bounds c.requires in omega arith

pub slice_bounds-result-end : goal.slice_bounds-result-end
slice_bounds-result-end c = let h = bounds c.requires in omega arith
