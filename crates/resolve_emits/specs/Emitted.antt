-- What the rules of an Emit are lent: nodes, the whole area for the events, and the last event of each name.
use Rattle.std.specs.Prelude.{ℕ, ◌≡◌, List, ◌++◌}
use Rattle.rules.specs.Sweep.{keep, has}
use Rattle.rules.specs.Tree.{Tree, event, emit}
use Rattle.rules.specs.Vocabulary.{Rec}
use Rattle.rules.specs.Resolve.{rule30, rule31}
use Rattle.records.specs.Records.{Entered, on}
use Rattle.nodes.specs.Shown.{View, Shown, In, tree_of}
use Rattle.nodes.specs.Statements.{Statements}
use Rattle.places.specs.Places.{Places, last_of}

-- node p of the part is of kind k
abbrev pub IsKind : List ℕ → ℕ → ℕ → ℕ → Type 0
IsKind nodes base p k = In nodes base p × ((W : View nodes base) → (tree_of W).kind p ≡ k)

-- nodes from `base` on, with the last event of each name
pub record EventNotes (nodes : List ℕ) (base : ℕ) (last : List ℕ) : Type 0 where
  pub view : View nodes base
  pub lasts : Places view.image (last_of (tree_of view) event 0) last

-- an item's statements, with the whole area and the last event of each name
pub record Emitted (nodes : List ℕ) (base : ℕ) (area last : List ℕ) : Type 0 where
  pub body : Statements nodes base
  pub lasts : Places body.view.image (last_of (tree_of body.view) event 0) last
  pub upto : ℕ
  pub shown : Shown body.view.image area 0 upto
  pub root : In area 0 0

-- 30, else 31, at an Emit; at a node
abbrev pub emit_rules : Tree → ℕ → List Rec
emit_rules t m = rule30 t m ++ rule31 t m

abbrev pub at30 : ℕ → Tree → List Rec
at30 p t = keep (has (t.kind p) emit) (emit_rules t) p

-- what F says of the tree of the nodes that are lent, by each of these
abbrev pub emitting : (Tree → List Rec) → (nodes : List ℕ) (base : ℕ) (last : List ℕ) → EventNotes nodes base last → Entered
emitting F nodes base last T = on F (tree_of T.view)

abbrev pub emitted : (Tree → List Rec) → (nodes : List ℕ) (base : ℕ) (area last : List ℕ) → Emitted nodes base area last → Entered
emitted F nodes base area last T = on F (tree_of T.body.view)
