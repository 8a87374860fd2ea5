-- What is sought by a place: the entry that holds it, and the row that stands there.
use Rattle.std.specs.Prelude.{ℕ, ◌-◌, ◌<◌, ◌≤◌, ◌≡◌, List, get_or}
use Rattle.rules.specs.Tree.{entry as entries}
use Rattle.rules.specs.Vocabulary.{Below}
use Rattle.nodes.specs.Shown.{View, In, tree_of}

-- no Entry holds node p
abbrev pub NoEntryAt : {nodes : List ℕ} (W : View nodes 0) → ℕ → Type 0
NoEntryAt W p = (e : ℕ) → Below (tree_of W) entries 0 e → e < p → p < (tree_of W).end e → ⊥

-- r is the Entry that holds node p
pub record EntryAt {nodes : List ℕ} (W : View nodes 0) (p r : ℕ) : Type 0 where
  pub is : Below (tree_of W) entries 0 r
  pub here : In nodes 0 r
  pub holds : (r < p) × (p < (tree_of W).end r)

-- none of n rows has the place p
abbrev pub NoRowAt : ℕ → List ℕ → ℕ → Type 0
NoRowAt n places p = (k : ℕ) → k < n → get_or places k 0 ≡ p → ⊥

-- r is the number, from 1 on, of that one of n rows whose place is p
pub record RowAt (n : ℕ) (places : List ℕ) (p r : ℕ) : Type 0 where
  pub after : 0 < r
  pub few : r ≤ n
  pub is : get_or places (r - 1) 0 ≡ p
