-- What the search for 22 is lent: nodes, and the number of `mint_asset`.
use Rattle.std.specs.Prelude.{ℕ, ◌-◌, List}
use Rattle.rules.specs.Sweep.{run, keep, has}
use Rattle.rules.specs.Tree.{Tree, bodied, call}
use Rattle.rules.specs.Words.{mint_asset}
use Rattle.rules.specs.Vocabulary.{Rec, calls}
use Rattle.rules.specs.Resolve.{rule22}
use Rattle.records.specs.Records.{Entered, on}
use Rattle.nodes.specs.Shown.{View, tree_of}
use Rattle.names.specs.Found.{Numbered}

-- nodes from `base` on, with the number of `mint_asset`
pub record Minting (nodes : List ℕ) (base mint : ℕ) : Type 0 where
  pub view : View nodes base
  pub mint_number : Numbered view.image mint_asset mint

-- 22 at a node; in an item
abbrev pub at22 : ℕ → Tree → List Rec
at22 p t = keep (has (t.kind p) call) (rule22 t) p

abbrev pub item22 : ℕ → Tree → List Rec
item22 p t = keep (has (t.kind p) bodied) (λ i. calls t i (rule22 t)) p

-- what F says of the tree of the nodes that are lent; 22 at all of them
abbrev pub minted : (Tree → List Rec) → (nodes : List ℕ) (base mint : ℕ) → Minting nodes base mint → Entered
minted F nodes base mint T = on F (tree_of T.view)

abbrev pub swept22 : (nodes : List ℕ) (base mint : ℕ) → Minting nodes base mint → Entered
swept22 nodes base mint T = on (λ t. run (λ p. at22 p t) base (T.view.upto - base)) (tree_of T.view)
