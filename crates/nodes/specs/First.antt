-- What comes first: the kinds whose first child is a Name, by document 01's table of children; the first statement of an entry.
use Rattle.std.specs.Prelude.{ℕ, ◌<◌, ◌≤◌, ◌≡◌, true, false, List, [], ◌∷◌}
use Rattle.rules.specs.Sweep.{has}
use Rattle.rules.specs.Tree.{declarations, statement}
use Rattle.rules.specs.Standing.{parts}
use Rattle.nodes.specs.Shown.{View, In, tree_of}

-- Asset, FieldDecl, Event, Entry, Param, Type, Conserves, Mints, Burns, Let, Emit
abbrev pub name_first : List ℕ
name_first = 2 ∷ 4 ∷ 5 ∷ 9 ∷ 10 ∷ 11 ∷ 16 ∷ 17 ∷ 18 ∷ 25 ∷ 26 ∷ []

abbrev pub NameFirst : ℕ → Type 0
NameFirst k = (k < 46) × (has k name_first ≡ true)

-- an item or a field that begins with its Name: Asset, FieldDecl, Event, Entry
abbrev pub Declaring : ℕ → Type 0
Declaring k = NameFirst k × (has k declarations ≡ true)

-- Param and the clauses, which stand before the statements of an entry
abbrev pub heads : List ℕ
heads = 10 ∷ 14 ∷ 15 ∷ 16 ∷ 17 ∷ 18 ∷ 19 ∷ 20 ∷ 21 ∷ []

-- a part of an entry that begins with its Name: Param, Conserves, Mints, Burns, Let, Emit
abbrev pub NamedPart : ℕ → Type 0
NamedPart k = NameFirst k × (has k parts ≡ true)

-- a part of an entry that stands before its statements and begins with its Name: Param, Conserves, Mints, Burns
abbrev pub HeadPart : ℕ → Type 0
HeadPart k = NameFirst k × (has k heads ≡ true)

-- r is in the range of node p, or its end, and no statement stands before it
pub record Starts {part : List ℕ} {b : ℕ} (W : View part b) (p r : ℕ) : Type 0 where
  pub after : p < r
  pub inside : r ≤ (tree_of W).end p
  pub none : (i : ℕ) → p < i → i < r → has ((tree_of W).kind i) statement ≡ false
  pub is : r < (tree_of W).end p → has ((tree_of W).kind r) statement ≡ true

-- r is the first statement of node p, which stands in the part
pub record Body (part : List ℕ) (b p r : ℕ) : Type 0 where
  pub view : View part b
  pub here : In part b p
  pub first : Starts view p r

-- e is an Entry that stands in the part, and `to` its first statement, or its end where it has none
pub record Head (part : List ℕ) (b e to : ℕ) : Type 0 where
  pub view : View part b
  pub here : In part b e
  pub positive : 0 < e
  pub is_entry : (tree_of view).kind e ≡ 9
  pub first : Starts view e to

-- the parts of kind k of node e, which stands in the part, all stand before `to`, and no node before it reaches past it
pub record Until (part : List ℕ) (b e to k : ℕ) : Type 0 where
  pub view : View part b
  pub here : In part b e
  pub positive : 0 < e
  pub after : e < to
  pub inside : to ≤ (tree_of view).end e
  pub reached : (p : ℕ) → e < p → p < to → (tree_of view).end p ≤ to
  pub rest : (j : ℕ) → to ≤ j → j < (tree_of view).end e → has ((tree_of view).kind j) (k ∷ []) ≡ false
