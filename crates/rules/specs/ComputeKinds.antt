-- To be skipped by a reader: kinds that only sweeps name.
use Rattle.std.specs.Prelude.{ℕ, List, [], ◌∷◌}

-- Invariant and Entry, those that may not know `deployer`
abbrev pub invariant_entry : List ℕ
invariant_entry = 8 ∷ 9 ∷ []

-- the items and the fields of State blocks; what may hold a Type: State, FieldDecl, Entry, Param, Type
abbrev pub declarations : List ℕ
declarations = 2 ∷ 3 ∷ 4 ∷ 5 ∷ 7 ∷ 8 ∷ 9 ∷ []

abbrev pub type_holders : List ℕ
type_holders = 3 ∷ 4 ∷ 9 ∷ 10 ∷ 11 ∷ []

-- what declares a tracked asset: Param, Let
abbrev pub param_let : List ℕ
param_let = 10 ∷ 25 ∷ []
