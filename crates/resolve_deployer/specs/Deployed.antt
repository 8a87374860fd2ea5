-- What 32 is lent: nodes, and a table that marks `deployer`, or its number; what it says of a clause and of an item.
use Rattle.std.specs.Prelude.{ℕ, ◌<◌, ◌≡◌, Bool, List}
use Rattle.rules.specs.Sweep.{keep, has, same}
use Rattle.rules.specs.Tree.{Tree, limits_denies_after, ident}
use Rattle.rules.specs.Tree as kinds
use Rattle.rules.specs.Words.{deployer}
use Rattle.rules.specs.Vocabulary.{Rec, below}
use Rattle.rules.specs.Resolve.{rule32, deployer_of}
use Rattle.records.specs.Records.{Entered, on}
use Rattle.nodes.specs.Shown.{View, In, tree_of}
use Rattle.nodes.specs.Marks.{Marks}
use Rattle.names.specs.Found.{Numbered}

-- a table that marks `deployer`
pub record Deployed (nodes : List ℕ) (base : ℕ) (marks : List Bool) : Type 0 where
  pub view : View nodes base
  pub tells : Marks view.image (λ w. same w deployer) marks

-- nodes of an image in which `deployer` has this number
pub record DeployerIs (nodes : List ℕ) (number : ℕ) : Type 0 where
  pub view : View nodes 0
  pub is : Numbered view.image deployer number

-- node e is an Entry
pub record IsEntry (nodes : List ℕ) (e : ℕ) : Type 0 where
  pub here : In nodes 0 e
  pub low : 0 < e
  pub is : (W : View nodes 0) → (tree_of W).kind e ≡ 9

-- 32 in a node's Idents; in a child of an entry; in an item
abbrev pub ident_rules : Tree → ℕ → List Rec
ident_rules t c = below t ident c (rule32 t)

abbrev pub clause32 : Tree → ℕ → List Rec
clause32 t p = keep (has (t.kind p) limits_denies_after) (ident_rules t) p

abbrev pub item32 : Tree → ℕ → List Rec
item32 t p = keep (has (t.kind p) kinds.invariant_entry) (deployer_of t) p

-- what F says of the tree of the nodes that are lent
abbrev pub deployed : (Tree → List Rec) → (nodes : List ℕ) (base : ℕ) (marks : List Bool) → Deployed nodes base marks → Entered
deployed F nodes base marks T = on F (tree_of T.view)

abbrev pub by_deployer : (Tree → List Rec) → (nodes : List ℕ) (number : ℕ) → DeployerIs nodes number → Entered
by_deployer F nodes number T = on F (tree_of T.view)
