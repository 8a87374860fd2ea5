-- What the groups are lent: the nodes of an image, the numbers of words, and tables by name number; what each of them says.
use Rattle.std.specs.Prelude.{ℕ, Bool, false, List, ◌++◌}
use Rattle.rules.specs.Sweep.{keep, has}
use Rattle.rules.specs.Tree.{Tree, genesis, entry}
use Rattle.rules.specs.Words.{mint_asset, Q_Address}
use Rattle.rules.specs.Vocabulary.{Rec, calls}
use Rattle.rules.specs.Model.{is_state, is_state_typed, is_declared_asset, is_known_asset}
use Rattle.rules.specs.Resolve.{rule34, rule40, genesis_rules, entry_rules, group20, group21, group22, group23, group24, group30}
use Rattle.records.specs.Records.{Entered, on}
use Rattle.nodes.specs.Shown.{View, In, tree_of}
use Rattle.nodes.specs.Marks.{Marks}
use Rattle.names.specs.Found.{Numbered}
use Rattle.resolve_calls.specs.Called.{is_builtin, is_method}
use Rattle.resolve.specs.declared.Tables.{Tables}

-- the number of `mint_asset`, and the state names
pub record LentFirst (nodes : List ℕ) (mint : ℕ) (state : List Bool) : Type 0 where
  pub view : View nodes 0
  pub root : In nodes 0 0
  pub mint_number : Numbered view.image mint_asset mint
  pub state_marks : Marks view.image (is_state (tree_of view)) state

-- the state names, and the words that a Call may call
pub record CallTables (nodes : List ℕ) (tables : Tables) : Type 0 where
  pub view : View nodes 0
  pub state_marks : Marks view.image (is_state (tree_of view)) tables.state.now
  pub builtin_marks : Marks view.image is_builtin tables.builtin.now
  pub method_marks : Marks view.image is_method tables.method.now

-- these words, the number of `Q_Address`, the state fields of this type, and a table with no name marked
pub record Called (nodes : List ℕ) (tables : Tables) (params : List Bool) : Type 0 where
  pub view : View nodes 0
  pub address_number : Numbered view.image Q_Address tables.address
  pub field_marks : Marks view.image (is_state_typed (tree_of view) Q_Address) tables.fields.now
  pub clean : Marks view.image (λ w. false) params
  pub builtin_marks : Marks view.image is_builtin tables.builtin.now
  pub method_marks : Marks view.image is_method tables.method.now

-- also the state names, the declared assets and the known assets
pub record ResolveTables (nodes : List ℕ) (tables : Tables) (params : List Bool) : Type 0 where
  pub of_entry : Called nodes tables params
  pub state_marks : Marks of_entry.view.image (is_state (tree_of of_entry.view)) tables.state.now
  pub declared_marks : Marks of_entry.view.image (is_declared_asset (tree_of of_entry.view)) tables.declared.now
  pub known_marks : Marks of_entry.view.image (is_known_asset (tree_of of_entry.view)) tables.known.now

-- 33 and 34 in an item; an entry's Calls; the rules of an entry in an item; the first six groups
abbrev pub item33 : ℕ → Tree → List Rec
item33 p t = keep (has (t.kind p) genesis) (genesis_rules t) p

abbrev pub entry_calls : ℕ → Tree → List Rec
entry_calls e t = calls t e (rule40 t e) ++ calls t e (rule34 t)

abbrev pub item35 : ℕ → Tree → List Rec
item35 p t = keep (has (t.kind p) entry) (entry_rules t) p

abbrev pub first_groups : Tree → List Rec
first_groups t = group20 t ++ (group21 t ++ (group22 t ++ (group23 t ++ (group24 t ++ group30 t))))

-- what F says of the tree of the nodes that are lent, by each of these
abbrev pub lent_first : (Tree → List Rec) → (nodes : List ℕ) (mint : ℕ) (state : List Bool) → LentFirst nodes mint state → Entered
lent_first F nodes mint state T = on F (tree_of T.view)

abbrev pub worded : (Tree → List Rec) → (nodes : List ℕ) (tables : Tables) → CallTables nodes tables → Entered
worded F nodes tables T = on F (tree_of T.view)

abbrev pub of_entry : (Tree → List Rec) → (nodes : List ℕ) (tables : Tables) (params : List Bool) → Called nodes tables params → Entered
of_entry F nodes tables params T = on F (tree_of T.view)

abbrev pub lent : (Tree → List Rec) → (nodes : List ℕ) (tables : Tables) (params : List Bool) → ResolveTables nodes tables params → Entered
lent F nodes tables params T = on F (tree_of T.of_entry.view)

-- no parameter is marked afterwards
abbrev pub CleansParams : (nodes : List ℕ) (tables : Tables) (params params' : List Bool) → Type 0
CleansParams nodes tables params params' = (T : Called nodes tables params) → Marks T.view.image (λ w. false) params'
