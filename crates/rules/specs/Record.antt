-- List record of document 01: code, place, related. The entry that contains the place follows from these (specs/Answers, `words`).
use Rattle.std.specs.Prelude.{ℕ}

pub record Rec : Type 0 where
  pub code : ℕ
  pub place : ℕ
  pub related : ℕ

abbrev pub rec : ℕ → ℕ → ℕ → Rec
rec c p q = record { code = c; place = p; related = q }
