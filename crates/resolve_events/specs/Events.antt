-- What the search for 30 and 31 is lent: the contract with the last event of each name, and an item's statements with both.
use Rattle.std.specs.Prelude.{ℕ, ◌-◌, ◌≡◌, true, List, [], ◌∷◌}
use Rattle.rules.specs.Sweep.{run, keep, has}
use Rattle.rules.specs.Tree.{Tree, bodied, emit}
use Rattle.rules.specs.Vocabulary.{Rec, below}
use Rattle.records.specs.Records.{Entered, on}
use Rattle.nodes.specs.Shown.{In, tree_of}
use Rattle.resolve_emits.specs.Emitted.{EventNotes, Emitted, emit_rules, at30}

-- Genesis or Entry, the items that hold statements
abbrev pub Bodied : ℕ → Type 0
Bodied k = has k bodied ≡ true

-- the whole area, with the last event of each name
pub record Events (area last : List ℕ) : Type 0 where
  pub emitting : EventNotes area 0 last
  pub root : In area 0 0

-- 30 and 31 in an item of kind k
abbrev pub item30 : ℕ → ℕ → Tree → List Rec
item30 k p t = keep (has (t.kind p) (k ∷ [])) (λ i. below t emit i (emit_rules t)) p

-- at all of an item's statements that are lent; what F says of the tree of the contract
abbrev pub swept30 : (nodes : List ℕ) (base : ℕ) (area last : List ℕ) → Emitted nodes base area last → Entered
swept30 nodes base area last T = on (λ t. run (λ p. at30 p t) base (T.body.view.upto - base)) (tree_of T.body.view)

abbrev pub events : (Tree → List Rec) → (nodes last : List ℕ) → Events nodes last → Entered
events F nodes last T = on F (tree_of T.emitting.view)
