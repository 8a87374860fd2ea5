-- From an item to the next one: no entry stands between them.
use Prim.Native.Nat.{ℕ, ◌<◌}
use native.Mathlib.Omega.{arith}
use mathlib.Core.Path.{◌≡◌, refl}
use mathlib.Core.Bool.{false}
use mathlib.Core.List.{List}
use Rattle.rules.specs.Sweep.{has}
use Rattle.rules.specs.Tree.{entry}
use Rattle.nodes.specs.Shown.{View, In, tree_of}
use Rattle.nodes.proofs.Parts.{past}
use Rattle.nodes.proofs.Shapes.{all_in, skips-items}

-- the next item is r: between them there is no entry
pub record Next {part : List ℕ} {b : ℕ} (W : View part b) (p r : ℕ) : Type 0 where
  pub here : In part b p
  pub low : 0 < p
  pub is : r ≡ (tree_of W).end p

pub next-on : {part : List ℕ} {b p r : ℕ} (W : View part b) → Next W p r → p < r
next-on W B = let h = past W B.here in let e = B.is in omega arith

pub between : {part : List ℕ} {b : ℕ} (W : View part b) {p r : ℕ} → Next W p r → (j : ℕ) → p < j → j < r → has ((tree_of W).kind j) entry ≡ false
unfolding all_in has
between W B j a c = skips-items entry refl W B.here B.low B.is j a c
