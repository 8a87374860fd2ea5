-- The node area of an admitted image, and what stands past its last node.
use Prim.Native.Nat.{ℕ, ◌+◌, ◌*◌, ◌≤◌}
use mathlib.Core.Path.{◌≡◌, refl}
use mathlib.Core.List.{List}
use native.Mathlib.Omega.{arith}
use lib.ListN.{get_or, get_or-eq_default}
use Rattle.image.specs.Text.{slice}
use Rattle.image.specs.Node.{full_word}
use Rattle.image.specs.Admit.{nodes_of}
use Rattle.image.specs.declared.Image.{Image}
use Rattle.image.proofs.Given.{given}
use Rattle.nodes.specs.Shown.{Admitted}

module _ {s : List ℕ} {head : Image} (H : Admitted s head) where
  pub node-area : slice s 24 (24 + 16 * head.nodes) ≡ nodes_of s
  node-area = rw H.nodes refl

  -- past the last node every word is 0
  pub no_word : (p d : ℕ) → head.nodes ≤ p → 0 ≡ full_word (nodes_of s) (16 * p + d)
  no_word p d l =
      let b = (given s H.admitted).node_bytes in
      let n = H.nodes in
      let at_byte : (k : ℕ) → 16 * p ≤ k → get_or (nodes_of s) k 0 ≡ 0 = λ k h. get_or-eq_default (nodes_of s) 0 (omega arith) in
      let z0 = at_byte (16 * p + d) (omega arith) in
      let z1 = at_byte (16 * p + d + 1) (omega arith) in
      let z2 = at_byte (16 * p + d + 2) (omega arith) in
      let z3 = at_byte (16 * p + d + 2 + 1) (omega arith) in
      omega arith
