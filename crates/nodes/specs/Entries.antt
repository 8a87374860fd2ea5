-- In which entry the nodes of a lent part stand, or a node with all below it: what a function promises of the records that it adds, when
-- it is told the entry (0: none) and cannot see it.
use Rattle.std.specs.Prelude.{ℕ, ◌+◌, ◌/◌, List, length}
use Rattle.image.specs.Node.{end_of}
use Rattle.records.specs.Records.{Entered, Held, within}

-- the nodes of the part from number `base` on all stand in the entry e
abbrev pub HeldPart : List ℕ → ℕ → ℕ → Type 0 → Type 0
HeldPart nodes base e X = Held X e base (base + length nodes / 16)

abbrev pub in_part : {X : Type 0} (e : ℕ) (nodes : List ℕ) (base : ℕ) → (X → Entered) → HeldPart nodes base e X → Entered
in_part e nodes base S = within e base (base + length nodes / 16) S

-- node p of the contract and all below it stand in the entry e
abbrev pub HeldNode : List ℕ → ℕ → ℕ → Type 0 → Type 0
HeldNode nodes p e X = Held X e p (end_of nodes p)

abbrev pub in_node : {X : Type 0} (e : ℕ) (nodes : List ℕ) (p : ℕ) → (X → Entered) → HeldNode nodes p e X → Entered
in_node e nodes p S = within e p (end_of nodes p) S
