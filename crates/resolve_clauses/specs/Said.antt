-- What the rules about words are lent: nodes, and tables by name number; what a table says gives a rule at a node.
use Rattle.std.specs.Prelude.{ℕ, ◌+◌, ◌≡◌, Bool, not, List, [], ◌∷◌, ◌⊎◌, ltb}
use Rattle.image.specs.Pick.{pick}
use Rattle.rules.specs.Sweep.{keep, has}
use Rattle.rules.specs.Tree.{Tree, name, param, naming, assign}
use Rattle.rules.specs.Vocabulary.{Rec, rec, only, below}
use Rattle.rules.specs.Model.{is_state, is_declared_asset, is_known_asset}
use Rattle.rules.specs.Resolve.{rule33, clause_rule}
use Rattle.records.specs.Records.{Entered, on}
use Rattle.nodes.specs.Shown.{View, tree_of}
use Rattle.nodes.specs.Marks.{Marks}
use Rattle.resolve_clauses.specs.declared.Rule.{Rule}

-- nodes with one table, whatever it says
pub record OneTable (nodes : List ℕ) (base : ℕ) (marks : List Bool) : Type 0 where
  pub view : View nodes base
  pub says : List ℕ → Bool
  pub tells : Marks view.image says marks

-- the state names, the declared assets and the known assets
pub record AssetMarks (nodes : List ℕ) (state declared known : List Bool) : Type 0 where
  pub view : View nodes 0
  pub state_marks : Marks view.image (is_state (tree_of view)) state
  pub declared_marks : Marks view.image (is_declared_asset (tree_of view)) declared
  pub known_marks : Marks view.image (is_known_asset (tree_of view)) known

-- a node of this kind carries a word
abbrev pub CarriesWord : ℕ → Type 0
CarriesWord k = (k ≡ 23) ⊎ (k ≡ 35)

-- a rule at the word of node p, where the table says P; at node p, if it is of the rule's kind
abbrev pub at_word : Rule → (List ℕ → Bool) → Tree → ℕ → List Rec
at_word R P t p = only (pick R.on (P (t.text p)) (not (P (t.text p)))) (rec R.code p 0)

abbrev pub at_node : Rule → (List ℕ → Bool) → Tree → ℕ → List Rec
at_node R P t p = keep (has (t.kind p) (R.kind ∷ [])) (at_word R P t) p

-- a word that the table does not mark
abbrev pub unmarked : Tree → (List ℕ → Bool) → ℕ → ℕ → List Rec
unmarked t P code p = only (not (P (t.text p))) (rec code p 0)

-- what F says of a signer, at node p, if it is a parameter that has one
abbrev pub at_signer : (ℕ → List Rec) → Tree → ℕ → List Rec
at_signer F t p = keep (has (t.kind p) param) (λ x. keep (ltb (t.end (x + 2)) (t.end x)) F (t.end (x + 2))) p

-- 33 at a node; 36 to 39 in a clause; in a child of an entry
abbrev pub at33 : ℕ → Tree → List Rec
at33 p t = keep (has (t.kind p) assign) (rule33 t) p

abbrev pub clause_rules : Tree → ℕ → List Rec
clause_rules t c = below t name c (clause_rule t (t.kind c))

abbrev pub clause36 : Tree → ℕ → List Rec
clause36 t p = keep (has (t.kind p) naming) (clause_rules t) p

-- what F says of the tree of the nodes that are lent (and of what the table says)
abbrev pub told : ((List ℕ → Bool) → Tree → List Rec) → (nodes : List ℕ) (base : ℕ) (marks : List Bool) → OneTable nodes base marks → Entered
told F nodes base marks T = on (F T.says) (tree_of T.view)

abbrev pub listed : (Tree → List Rec) → (nodes : List ℕ) (state declared known : List Bool) → AssetMarks nodes state declared known → Entered
listed F nodes state declared known T = on F (tree_of T.view)
