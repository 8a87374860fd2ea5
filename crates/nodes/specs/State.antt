-- What a rule about state names is lent: nodes from number `base` on, and the marks of the state names.
use Rattle.std.specs.Prelude.{ℕ, Bool, List}
use Rattle.rules.specs.Tree.{Tree}
use Rattle.rules.specs.Vocabulary.{Rec}
use Rattle.rules.specs.Model.{is_state}
use Rattle.records.specs.Records.{Entered, on}
use Rattle.nodes.specs.Shown.{View, tree_of}
use Rattle.nodes.specs.Marks.{Marks}

pub record State (nodes : List ℕ) (base : ℕ) (state : List Bool) : Type 0 where
  pub view : View nodes base
  pub state_marks : Marks view.image (is_state (tree_of view)) state

-- what F says of the tree of these nodes
abbrev pub seen : (Tree → List Rec) → (nodes : List ℕ) (base : ℕ) (state : List Bool) → State nodes base state → Entered
seen F nodes base state T = on F (tree_of T.view)
