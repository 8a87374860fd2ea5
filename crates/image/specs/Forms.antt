-- What document 01's refusal 6 leaves of the nodes of an admitted image, for the contracts of the passes that read them.
use Rattle.std.specs.Prelude.{ℕ, ◌<◌, ◌≤◌, ◌≡◌, true, List}
use Rattle.image.specs.Node.{kind_of, end_of}
use Rattle.image.specs.Tree.{children_fit}

-- node i of n: it ends past itself and within the nodes, and its children tile its range and fit its row
pub record FormsNode (nodes : List ℕ) (n i : ℕ) : Type 0 where
  pub past : i < end_of nodes i
  pub inside : end_of nodes i ≤ n
  pub children : children_fit nodes i (end_of nodes i) ≡ true

pub record FormsTree (nodes : List ℕ) (n : ℕ) : Type 0 where
  pub root_kind : kind_of nodes 0 ≡ 1
  pub root_end : end_of nodes 0 ≡ n
  pub node : (i : ℕ) → i < n → FormsNode nodes n i
