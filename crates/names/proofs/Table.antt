-- The table of names of an admitted image: where the bytes of each name lie in its text, and that names ascend.
use Prim.Native.Nat.{ℕ, suc, ◌+◌, ◌-◌, ◌<◌, ◌≤◌}
use mathlib.Core.Path.{◌≡◌}
use mathlib.Core.Bool.{true}
use mathlib.Core.List.{List}
use native.Mathlib.Omega.{arith}
use lib.ListN.{length}
use Rattle.image.specs.Text.{slice, off_of, names_ok, less}
use Rattle.image.specs.Admit.{name_count, names_of, text_part, names_at, text_at}
use Rattle.image.specs.declared.Image.{Image}
use Rattle.image.proofs.Given.{given}
use Rattle.image.proofs.Tree.{named}
use Rattle.rules.proofs.Numbers.{rises}
use Rattle.nodes.specs.Shown.{Admitted, name_text}

module _ {s : List ℕ} {head : Image} (H : Admitted s head) where
  -- the table from t on, and the text from x on, by the header's counts
  module _ {t x : ℕ} (from : t ≡ names_at head.nodes) (to : x ≡ text_at head.nodes head.names) where
    table_is : slice s t x ≡ names_of s
    table_is = rw (from, to, H.nodes, H.names)

    text-is : slice s x (length s) ≡ text_part s
    text-is = rw (to, H.nodes, H.names)

    module _ {k a b : ℕ} (l : k < head.names) (d : a ≡ off_of (slice s t x) k) (e : b ≡ off_of (slice s t x) (k + 1)) where
      -- the name at place k lies within the text, and has its bytes there
      pub lies : (a ≤ b) × (b ≤ length (slice s x (length s)))
      lies =
          let g : names_ok (slice s t x) (slice s x (length s)) head.names ≡ true = rw (table_is, text-is, H.names) (given s H.admitted).names in
          let z : k + 1 - 1 ≡ k = omega arith in
          let h = rw z at (named (slice s t x) (slice s x (length s)) head.names (k + 1) g (omega arith) (omega arith)) in
          (omega arith, omega arith)

      pub lies-there : slice (slice s x (length s)) a b ≡ name_text s (k + 1)
      lies-there = let z : k + 1 - 1 ≡ k = omega arith in rw (z, ← table_is, ← text-is, d, e)

  -- names ascend by their bytes
  pub ascends : (i j : ℕ) → i < j → j ≤ name_count s → less (name_text s i) (name_text s j) ≡ true
  ascends i j l h = let d : i + suc (j - suc i) ≡ j = omega arith in rw d at (rises s H.admitted (j - suc i) i (omega arith))
