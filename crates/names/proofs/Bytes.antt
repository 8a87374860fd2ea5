-- Byte strings are equal exactly when their bytes are, one by one.
use Prim.Native.Nat.{ℕ, ◌<◌}
use mathlib.Core.Path.{◌≡◌, ap, ◌∙◌, sym}
use mathlib.Core.Bool.{true, false}
use mathlib.Core.List.{List}
use lib.ListN.{length, get_or}
use lib.Seq.{ext_get_or}
use Rattle.rules.specs.Sweep.{same}
use Rattle.nodes.proofs.Names.{same-is, same_not}

module _ (v w : List ℕ) where
  pub same_bytes : length v ≡ length w → ((k : ℕ) → k < length v → get_or v k 0 ≡ get_or w k 0) → true ≡ same v w
  same_bytes e h = sym (ap (same v) (sym (ext_get_or 0 v w e h)) ∙ same-is v)

  pub other_length : (length v ≡ length w → ⊥) → false ≡ same v w
  other_length n = sym (same_not v w (λ e. n (ap length e)))

  pub other_byte : (k : ℕ) → (get_or v k 0 ≡ get_or w k 0 → ⊥) → false ≡ same v w
  other_byte k n = sym (same_not v w (λ e. n (ap (λ (l : List ℕ). get_or l k 0) e)))
