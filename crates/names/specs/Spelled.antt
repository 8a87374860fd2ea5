-- The words that the rules mention, each with the number that an image gives it (0 where no name has these bytes).
use Rattle.std.specs.Prelude.{ℕ, Bool, List}
use Rattle.rules.specs.Tree.{Tree}
use Rattle.rules.specs.Vocabulary.{Rec}
use Rattle.rules.specs.Model.{is_state}
use Rattle.rules.specs.Words.{QTOV, Q_Asset, Q_Address, deployer, mint, mint_asset, split, send, send_asset, get, contains, set_word, remove, merge, insert, debit, credit, has_word}
use Rattle.records.specs.Records.{Entered, on}
use Rattle.nodes.specs.Shown.{View, In, tree_of}
use Rattle.nodes.specs.Marks.{Marks}
use Rattle.names.specs.Found.{Numbered}
use Rattle.names.specs.declared.Builtins.{Builtins}
use Rattle.names.specs.declared.Methods.{Methods}
use Rattle.names.specs.declared.Words.{Words}

pub record BuiltinsOf (s : List ℕ) (r : Builtins) : Type 0 where
  pub send_is : Numbered s send r.send
  pub send_asset_is : Numbered s send_asset r.send_asset
  pub mint_is : Numbered s mint r.mint
  pub mint_asset_is : Numbered s mint_asset r.mint_asset

pub record MethodsOf (s : List ℕ) (r : Methods) : Type 0 where
  pub get_is : Numbered s get r.get
  pub contains_is : Numbered s contains r.contains
  pub split_is : Numbered s split r.split
  pub set_is : Numbered s set_word r.set
  pub remove_is : Numbered s remove r.remove
  pub merge_is : Numbered s merge r.merge
  pub insert_is : Numbered s insert r.insert
  pub debit_is : Numbered s debit r.debit
  pub credit_is : Numbered s credit r.credit

pub record WordsOf (s : List ℕ) (r : Words) : Type 0 where
  pub builtins_are : BuiltinsOf s r.builtins
  pub methods_are : MethodsOf s r.methods
  pub has_is : Numbered s has_word r.has
  pub deployer_is : Numbered s deployer r.deployer
  pub asset_is : Numbered s Q_Asset r.asset
  pub address_is : Numbered s Q_Address r.address
  pub qtov_is : Numbered s QTOV r.qtov

-- what every pass is lent: the nodes of an admitted image, the numbers of the words, and the marks of the state names
pub record Looked (nodes : List ℕ) (words : Words) (state : List Bool) : Type 0 where
  pub view : View nodes 0
  pub root : In nodes 0 0
  pub words_are : WordsOf view.image words
  pub state_marks : Marks view.image (is_state (tree_of view)) state

-- what F says of the tree of these nodes
abbrev pub looked : (Tree → List Rec) → (nodes : List ℕ) (words : Words) (state : List Bool) → Looked nodes words state → Entered
looked F nodes words state T = on F (tree_of T.view)
