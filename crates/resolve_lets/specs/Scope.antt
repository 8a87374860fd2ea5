-- What the rules of an entry's Lets are lent: nodes, and tables by name number; what each table says.
use Rattle.std.specs.Prelude.{ℕ, ◌-◌, ◌<◌, ◌≡◌, Bool, false, List, ◌++◌}
use Rattle.rules.specs.Sweep.{run, keep, has}
use Rattle.rules.specs.Tree.{Tree, ident, param, statement, «let»}
use Rattle.rules.specs.Vocabulary.{Rec, below}
use Rattle.rules.specs.Model.{is_state}
use Rattle.rules.specs.Resolve.{rule26, rule29, let_rules}
use Rattle.records.specs.Records.{Entered, on}
use Rattle.nodes.specs.Shown.{tree_of}
use Rattle.nodes.specs.Marks.{Marks}
use Rattle.nodes.specs.State.{State}
use Rattle.nodes.specs.Statements.{Statements}
use Rattle.places.specs.Places.{Places, first_of}

-- an entry, with the state names and its parameters
pub record Params (nodes : List ℕ) (entry : ℕ) (state : List Bool) (params : List ℕ) : Type 0 where
  pub named : State nodes 0 state
  pub first_params : Places named.view.image (first_of (tree_of named.view) param entry) params

-- an entry's statements, with its Lets; with the state names and its parameters too
pub record Lets (nodes : List ℕ) (base : ℕ) (lets : List ℕ) : Type 0 where
  pub body : Statements nodes base
  pub first_lets : Places body.view.image (first_of (tree_of body.view) «let» body.item) lets

pub record NamingBody (nodes : List ℕ) (base : ℕ) (state : List Bool) (params lets : List ℕ) : Type 0 where
  pub scope : Lets nodes base lets
  pub state_marks : Marks scope.body.view.image (is_state (tree_of scope.body.view)) state
  pub first_params : Places scope.body.view.image (first_of (tree_of scope.body.view) param scope.body.item) params

-- 26, 27 to 29, 29 at a node
abbrev pub at26 : ℕ → ℕ → Tree → ℕ → List Rec
at26 s p t e = keep (has (t.kind p) ident) (rule26 t e s) p

abbrev pub at27 : ℕ → Tree → ℕ → List Rec
at27 s t e = keep (has (t.kind s) «let») (let_rules t e) s

abbrev pub at29 : ℕ → Tree → ℕ → List Rec
at29 s t e = keep (has (t.kind s) «let») (rule29 t e) s

-- 26 in a statement; 26 to 29 in a statement
abbrev pub idents26 : ℕ → Tree → ℕ → List Rec
idents26 s t e = below t ident s (rule26 t e s)

abbrev pub statement_names : Tree → ℕ → ℕ → List Rec
statement_names t e s = idents26 s t e ++ at27 s t e

-- what F says of the tree of the statements that are lent, and of the entry
abbrev pub seen_lets : (Tree → ℕ → List Rec) → (nodes : List ℕ) (base : ℕ) (lets : List ℕ) → Lets nodes base lets → Entered
seen_lets F nodes base lets T = on (λ t. F t T.body.item) (tree_of T.body.view)

abbrev pub seen_body : (Tree → ℕ → List Rec) → (nodes : List ℕ) (base : ℕ) (state : List Bool) (params lets : List ℕ) → NamingBody nodes base state params lets → Entered
seen_body F nodes base state params lets T = on (λ t. F t T.scope.body.item) (tree_of T.scope.body.view)

-- 26 to 29 in all of the statements that are lent
abbrev pub swept26 : (nodes : List ℕ) (base : ℕ) (state : List Bool) (params lets : List ℕ) → NamingBody nodes base state params lets → Entered
swept26 nodes base state params lets T =
    let W = T.scope.body.view in
    on (λ t. run (λ s. keep (has (t.kind s) statement) (statement_names t T.scope.body.item) s) base (W.upto - base)) (tree_of W)

-- no Let stands in the entry
abbrev pub NoLet : Tree → ℕ → Type 0
NoLet t e = (j : ℕ) → e < j → j < t.end e → has (t.kind j) «let» ≡ false

-- an entry with the state names and its parameters, and a table that notes nothing
pub record Scope (nodes : List ℕ) (entry : ℕ) (state : List Bool) (params lets : List ℕ) : Type 0 where
  pub lent : Params nodes entry state params
  pub clean : Places lent.named.view.image (λ w. 0) lets

-- 26 to 29 in it; the table notes nothing afterwards
abbrev pub scoped : (entry : ℕ) (nodes : List ℕ) (state : List Bool) (params lets : List ℕ) → Scope nodes entry state params lets → Entered
scoped entry nodes state params lets T = on (λ t. below t statement entry (statement_names t entry)) (tree_of T.lent.named.view)

abbrev pub CleansLets : (nodes : List ℕ) (entry : ℕ) (state : List Bool) (params lets lets' : List ℕ) → Type 0
CleansLets nodes entry state params lets lets' = (T : Scope nodes entry state params lets) → Places T.lent.named.view.image (λ w. 0) lets'
