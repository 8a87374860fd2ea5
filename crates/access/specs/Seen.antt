-- What the pass is lent: nodes, and tables by name number; what each table says.
use Rattle.std.specs.Prelude.{ℕ, ◌-◌, Bool, false, List, ◌++◌}
use Rattle.rules.specs.Sweep.{run, keep, has, same, has_word}
use Rattle.rules.specs.Tree.{Tree, writes, name, ident, invariant, entry, statement, assign, call}
use Rattle.rules.specs.Words.{writers}
use Rattle.rules.specs.Vocabulary.{Rec, below, some_below}
use Rattle.rules.specs.Model.{is_state}
use Rattle.rules.specs.Access.{rule50, assign_rule, call_rule, statement_rules}
use Rattle.records.specs.Records.{Entered, on}
use Rattle.nodes.specs.Shown.{View, In, tree_of}
use Rattle.nodes.specs.Marks.{Marks}
use Rattle.access.specs.declared.Tables.{Tables}

-- a Name of the clause c has the bytes w; a Writes clause of the entry e has
abbrev pub clause_has : Tree → List ℕ → ℕ → Bool
clause_has t w c = some_below t name c (λ n. same (t.text n) w)

abbrev pub written_in : Tree → ℕ → List ℕ → Bool
written_in t e w = some_below t writes e (clause_has t w)

abbrev pub is_writer : List ℕ → Bool
is_writer w = has_word w writers

-- the nodes of an image, the state names, the words that write their base, and a table with no name marked
pub record AccessTables (nodes : List ℕ) (tables : Tables) (written : List Bool) : Type 0 where
  pub view : View nodes 0
  pub root : In nodes 0 0
  pub state_marks : Marks view.image (is_state (tree_of view)) tables.state.now
  pub writer_marks : Marks view.image is_writer tables.writer.now
  pub clean : Marks view.image (λ w. false) written

-- nodes from `base` on, with the state names and the names that an entry writes; also the words that write their base
pub record Writing (nodes : List ℕ) (base : ℕ) (state written : List Bool) : Type 0 where
  pub view : View nodes base
  pub state_marks : Marks view.image (is_state (tree_of view)) state
  pub entry : ℕ
  pub written_marks : Marks view.image (written_in (tree_of view) entry) written

pub record WritingBody (nodes : List ℕ) (base : ℕ) (tables : Tables) (written : List Bool) : Type 0 where
  pub writing : Writing nodes base tables.state.now written
  pub writer_marks : Marks writing.view.image is_writer tables.writer.now

-- 50 at a node; in an item
abbrev pub at50 : ℕ → Tree → List Rec
at50 p t = keep (has (t.kind p) ident) (rule50 t) p

abbrev pub item50 : ℕ → Tree → List Rec
item50 p t = keep (has (t.kind p) invariant) (λ v. below t ident v (rule50 t)) p

-- 51 at a node, which is an Assign, a Call or neither; in an item
abbrev pub at51 : ℕ → Tree → ℕ → List Rec
at51 p t e = keep (has (t.kind p) assign) (assign_rule t e) p ++ keep (has (t.kind p) call) (call_rule t e) p

abbrev pub item51 : ℕ → Tree → List Rec
item51 p t = keep (has (t.kind p) entry) (λ e. below t statement e (statement_rules t e)) p

-- what F says of the tree of the nodes that are lent; of the tree and the entry
abbrev pub seen_access : (Tree → List Rec) → (nodes : List ℕ) (tables : Tables) (written : List Bool) → AccessTables nodes tables written → Entered
seen_access F nodes tables written T = on F (tree_of T.view)

abbrev pub seen_in : (Tree → ℕ → List Rec) → (nodes : List ℕ) (base : ℕ) (tables : Tables) (written : List Bool) → WritingBody nodes base tables written → Entered
seen_in F nodes base tables written T = on (λ t. F t T.writing.entry) (tree_of T.writing.view)

-- 51 at all of the nodes that are lent
abbrev pub swept51 : (nodes : List ℕ) (base : ℕ) (tables : Tables) (written : List Bool) → WritingBody nodes base tables written → Entered
swept51 nodes base tables written T = on (λ t. run (λ p. at51 p t T.writing.entry) base (T.writing.view.upto - base)) (tree_of T.writing.view)

-- no name is marked afterwards
abbrev pub CleansWritten : (nodes : List ℕ) (tables : Tables) (written written' : List Bool) → Type 0
CleansWritten nodes tables written written' = (T : AccessTables nodes tables written) → Marks T.view.image (λ w. false) written'
