-- What is looked up once for all passes: the nodes of an admitted image, the numbers of the words that the rules mention, and the marks of the state names.
use Rattle.std.specs.Prelude.{ℕ, Bool, List}
use Rattle.image.specs.Admit.{node_count}
use Rattle.image.specs.declared.Image.{Image}
use Rattle.rules.specs.Tree.{tree}
use Rattle.rules.specs.Model.{is_state}
use Rattle.nodes.specs.Shown.{Shown, Admitted}
use Rattle.nodes.specs.Marks.{Marks}
use Rattle.names.specs.declared.Words.{Words}
use Rattle.names.specs.Spelled.{WordsOf}

pub record LookedUp (s : List ℕ) (head : Image) (nodes : List ℕ) (words : Words) (state : List Bool) : Type 0 where
  pub image : Admitted s head
  pub area : Shown s nodes 0 (node_count s)
  pub words_are : WordsOf s words
  pub state_marks : Marks s (is_state (tree s)) state
