-- What a step of admission answers, as a number: that of the refusal, 0 where nothing is refused.
use Rattle.std.specs.Prelude.{ℕ, Result, Ok, Err}
use Rattle.image.specs.declared.Refusal.{Refusal}
use Rattle.image.specs.Refusals.{number_of}

abbrev pub refused_by : {A : Type 0} → Result A Refusal → ℕ
refused_by (Ok _) = 0
refused_by (Err r) = number_of r
