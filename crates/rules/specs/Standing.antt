-- No part of what the rules say: an aid of the proofs, and of contracts that walk the tree. How the nodes of an admitted image's tree
-- stand, on which the order rests: ranges nest, and the kinds stand as document 01's table of children has them. Proved of the tree of
-- every admitted image in proofs/Admitted.
use Rattle.std.specs.Prelude.{ℕ, ◌+◌, ◌<◌, ◌≤◌, List, [], ◌∷◌}
use Rattle.rules.specs.Tree.{Tree, entry, param, statement}
use Rattle.rules.specs.Vocabulary.{Below}

-- nodes of these kinds do not hold each other
abbrev pub Flat : Tree → List ℕ → Type 0
Flat t ks = (i j : ℕ) → Below t ks t.root i → Below t ks i j → ⊥

-- Asset, FieldDecl, Event, Genesis, Invariant, Entry
abbrev pub apart : List ℕ
apart = 2 ∷ 4 ∷ 5 ∷ 7 ∷ 8 ∷ 9 ∷ []

-- the items of a contract: Asset, State, Event, Genesis, Invariant, Entry
abbrev pub all_items : List ℕ
all_items = 2 ∷ 3 ∷ 5 ∷ 7 ∷ 8 ∷ 9 ∷ []

-- Invariants, parameters, clauses, statements
abbrev pub parts : List ℕ
parts = 8 ∷ 10 ∷ 14 ∷ 15 ∷ 16 ∷ 17 ∷ 18 ∷ 19 ∷ 20 ∷ 21 ∷ statement

pub record Formed (t : Tree) : Type 0 where
  pub past : (i : ℕ) → t.root ≤ i → i < t.end t.root → i < t.end i
  pub nests :
      (i j : ℕ) → t.root ≤ i → i < t.end t.root → i < j → j < t.end i → t.end j ≤ t.end i
  pub items_flat : Flat t apart
  pub parts_flat : Flat t parts
  pub params_first :
      (e x s : ℕ) → Below t entry t.root e → Below t param e x → Below t statement e s → x < s
  pub param_long : (x : ℕ) → Below t param t.root x → x + 2 < t.end x
