-- E3 of document 02, "Why is this lot refused?": the facts. Which row a place asks about, what an entry says, and which entries there
-- are in which order. An entry is two words, as E5 has it.
use Rattle.std.specs.Prelude.{ℕ, ◌≡◌, List, [], ◌∷◌, ◌++◌}
use Rattle.rules.specs.Tree.{Tree, the_name, entry}
use Rattle.rules.specs.Vocabulary.{Below, IsFirst, AllOf}
use Rattle.rules.specs.Linear.{Row, GivesMark, Mark, Consumes, Use, place_of}

-- "the place of a tracked asset": p is that of the row x of the entry e
abbrev pub TrackedAt : Tree → ℕ → ℕ → ℕ → Type 0
TrackedAt t p e x = Below t entry t.root e × Row t e x × (p ≡ place_of t x)

-- What an entry says

-- of the mark of the parameter y: "the Name of the first Burns clause that gives the mark", and 0
pub record SaysClause (t : Tree) (e y a b : ℕ) : Type 0 where
  pub clause : ℕ
  pub is_first : IsFirst (GivesMark t e y) clause
  pub its_name : a ≡ the_name t clause
  pub nothing : b ≡ 0

-- of a counted occurrence: "both the Ident and the node that consumes it"
pub record SaysUse (t : Tree) (e i a b : ℕ) : Type 0 where
  pub its_ident : a ≡ i
  pub its_consumer : Consumes t e b i

-- the words w are one entry for each of the nodes l, in their order
abbrev pub Said : (ℕ → ℕ → ℕ → Type 0) → List ℕ → List ℕ → Type 0
Said E [] [] = Unit {0}
Said E [] (a ∷ w) = ⊥
Said E (x ∷ l) [] = ⊥
Said E (x ∷ l) (a ∷ []) = ⊥
Said E (x ∷ l) (a ∷ b ∷ w) = E x a b × Said E l w

-- Which entries the row x of the entry e has: "one entry for each burn mark of that row, in parameter order", its words v; "then every
-- counted occurrence once, in preorder", its words u. Both orders are that of the nodes' numbers (AllOf)
pub record Reasons (t : Tree) (e x : ℕ) (w : List ℕ) : Type 0 where
  pub burned : List ℕ
  pub used : List ℕ
  pub v : List ℕ
  pub u : List ℕ
  pub all_marks : AllOf (Mark t e x) burned
  pub all_uses : AllOf (Use t e x) used
  pub clauses : Said (SaysClause t e) burned v
  pub occurrences : Said (SaysUse t e) used u
  pub both : w ≡ v ++ u
