-- Names by bytes: on an admitted image two name numbers are equal exactly when the bytes are. Proved in proofs/Numbers.
use Rattle.std.specs.Prelude.{ℕ, ◌≤◌, ◌≡◌, List, ◌↔◌}
use Rattle.image.specs.Admit.{refusal, name_count}
use Rattle.rules.specs.Tree.{name_text}
pub use Rattle.rules.specs.Tree.{name_text}
pub use Rattle.rules.specs.ComputeNames.{SameNumbers, Found, NotFound}
unfoldable pub use Rattle.rules.specs.ComputeNames.{number_of}

abbrev pub EqualNumbers : Type 0
EqualNumbers =
    (s : List ℕ) → refusal s ≡ 0 → (x y : ℕ) → x ≤ name_count s → y ≤ name_count s
    → (x ≡ y) ↔ (name_text s x ≡ name_text s y)
