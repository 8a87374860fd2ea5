-- The node area of an admitted image, from the counts of its header.
use Prim.Native.Nat.{ℕ, ◌+◌, ◌*◌, ◌≤◌}
use mathlib.Core.List.{List}
use native.Mathlib.Omega.{arith}
use lib.ListN.{length}
use Rattle.image.specs.Text.{slice}
use Rattle.image.specs.Admit.{node_count}
use Rattle.image.specs.declared.Image.{Image}
use Rattle.image.proofs.Given.{given}
use Rattle.nodes.specs.Shown.{Shown, View, In, Admitted}
use Rattle.nodes.proofs.Parts.{whole}

module _ {s : List ℕ} {head : Image} (H : Admitted s head) where
  pub bounds : (1 ≤ head.nodes) × (head.nodes ≤ 2048) × (head.names ≤ 1024) × (24 + 16 * head.nodes + 2 * (head.names + 1) ≤ length s)
  bounds = let g = (given s H.admitted).header in let a = H.nodes in let b = H.names in (omega arith, omega arith, omega arith, omega arith)

  pub shown : Shown s (slice s 24 (24 + 16 * head.nodes)) 0 (node_count s)
  shown = rw H.nodes (whole s H.admitted)

-- the node area seen as the image's; the contract stands in it
abbrev pub view_of : {s part : List ℕ} → Shown s part 0 (node_count s) → View part 0
view_of {s} S = record { image = s; upto = node_count s; shown = S }

pub root-of : {s part : List ℕ} → Shown s part 0 (node_count s) → In part 0 0
root-of {s} S = let g = (given s S.admitted).header in let b = S.bytes in (omega arith, omega arith, omega arith)
