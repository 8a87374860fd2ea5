-- What the rules of an entry's names are lent between entries: the state names, and tables that note nothing.
use Rattle.std.specs.Prelude.{ℕ, Bool, List, ◌++◌}
use Rattle.rules.specs.Sweep.{keep, has}
use Rattle.rules.specs.Tree.{Tree, param, entry}
use Rattle.rules.specs.Vocabulary.{Rec, below}
use Rattle.rules.specs.Resolve.{rule24, rule25, entry_names}
use Rattle.records.specs.Records.{Entered, on}
use Rattle.nodes.specs.Shown.{tree_of}
use Rattle.nodes.specs.State.{State}
use Rattle.places.specs.Places.{Places}

abbrev pub NoneNoted : {nodes : List ℕ} {state : List Bool} → State nodes 0 state → List ℕ → List ℕ → Type 0
NoneNoted T params lets = Places T.view.image (λ w. 0) params × Places T.view.image (λ w. 0) lets

pub record NameTables (nodes : List ℕ) (state : List Bool) (params lets : List ℕ) : Type 0 where
  pub named : State nodes 0 state
  pub clean : NoneNoted named params lets

-- 24 and 25 in an entry; 24 to 29 in an item
abbrev pub parameter_rules : Tree → ℕ → List Rec
parameter_rules t e = below t param e (λ x. rule24 t x ++ rule25 t e x)

abbrev pub item24 : ℕ → Tree → List Rec
item24 p t = keep (has (t.kind p) entry) (entry_names t) p

-- what F says of the tree of the nodes that are lent
abbrev pub seen_names : (Tree → List Rec) → (nodes : List ℕ) (state : List Bool) (params lets : List ℕ) → NameTables nodes state params lets → Entered
seen_names F nodes state params lets T = on F (tree_of T.named.view)

-- nothing is noted afterwards
abbrev pub CleansNoted : (nodes : List ℕ) (state : List Bool) (params params' lets lets' : List ℕ) → Type 0
CleansNoted nodes state params params' lets lets' = (T : NameTables nodes state params lets) → NoneNoted T.named params' lets'
