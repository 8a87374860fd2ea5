-- What a run of bytes leaves in a buffer; numbers in decimal and the rest of a line, as the report has them.
use Rattle.std.specs.Prelude.{ℕ, ◌+◌, ◌≡◌, List, length}
use Rattle.std.proofs.lemmas.List.Edits.{sets}
unfoldable pub use Rattle.rules.specs.Report.{digits, rest}
pub use Rattle.rules.specs.Report.{decimal}

-- the bytes t after k bytes: so many are counted then, and so the buffer stands; what does not fit is not written
pub record Printed (o : List ℕ) (k : ℕ) (t : List ℕ) (o' : List ℕ) (k' : ℕ) : Type 0 where
  pub count : k' ≡ k + length t
  pub bytes : o' ≡ sets o k t
