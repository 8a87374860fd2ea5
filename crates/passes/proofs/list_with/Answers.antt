-- `list_with` meets its contract: each pass's own list.
use native.Mathlib.Omega.{arith}
use Prim.Native.Nat.{◌*◌, ◌^◌}
use mathlib.Core.Path.{refl}
use Rattle.records.proofs.Laws.{added-by}
use Rattle.nodes.specs.Shown.{tree_of}
use Rattle.names.specs.Spelled.{Looked}
use Rattle.passes.proofs.Laws.{listed_by}
use Rattle.passes.proofs.Lookups.{by-words}
use Rattle.passes.proofs.list_with.Goals as goal

pub list-requires-in-Linear : goal.list-requires-in-Linear
list-requires-in-Linear c = by-words c.requires

pub returns-in-Resolve : goal.returns-in-Resolve
returns-in-Resolve c = listed_by (λ (T : Looked c.args.nodes.now c.args.words c.args.state.now). tree_of T.view) (2 ^ 38) c.in-Resolve.is (omega arith) c.list.ensures

pub returns-in-Access : goal.returns-in-Access
returns-in-Access c = listed_by (λ (T : Looked c.args.nodes.now c.args.words c.args.state.now). tree_of T.view) (2 * 2048 * 2048) c.in-Access.is (omega arith) c.list-in-Access.ensures

pub returns-in-Linear : goal.returns-in-Linear
returns-in-Linear c = listed_by (λ (T : Looked c.args.nodes.now c.args.words c.args.state.now). tree_of T.view) (3070 * 2048) c.in-Linear.is (omega arith) (added-by (λ T. by-words T) (λ T. refl) c.list-in-Linear.ensures)
