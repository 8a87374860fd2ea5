-- What a rule about a name is lent: nodes from number `base` on, and the first of each name; what it says of a node.
use Rattle.std.specs.Prelude.{ℕ, ◌+◌, ◌<◌, List, [], ◌∷◌, ltb}
use Rattle.rules.specs.Sweep.{keep, has}
use Rattle.rules.specs.Tree.{Tree}
use Rattle.rules.specs.Vocabulary.{Rec, rec, only, first_named}
use Rattle.rules.specs.Model.{is_state}
use Rattle.records.specs.Records.{Entered, on}
use Rattle.nodes.specs.Shown.{View, tree_of}
use Rattle.places.specs.Places.{Places, first_of}

-- node p below a `holder`, with the first of each name among the nodes of a kind below that
pub record Among (nodes : List ℕ) (base kind p : ℕ) (firsts : List ℕ) : Type 0 where
  pub view : View nodes base
  pub holder : ℕ
  pub after : holder < p
  pub inside : p < (tree_of view).end holder
  pub are_first : Places view.image (first_of (tree_of view) (kind ∷ []) holder) firsts

-- 20, 21, 25 and 27 are one rule: the name of a node of kind ks below a is met before; the record is about its Name (1) or itself (0)
abbrev pub met_rule : ℕ → List ℕ → ℕ → Tree → ℕ → ℕ → List Rec
met_rule code ks name t a i = let g = first_named t ks a i in only (ltb g i) (rec code (i + name) (g + name))

-- 24 and 28 are one: its name is a state name
abbrev pub state_rule : ℕ → ℕ → Tree → ℕ → List Rec
state_rule code place t i = only (is_state t (t.text (i + 1))) (rec code place 0)

-- at a node of kind ks
abbrev pub at_met : ℕ → List ℕ → ℕ → ℕ → Tree → ℕ → List Rec
at_met code ks name p t a = keep (has (t.kind p) ks) (met_rule code ks name t a) p

abbrev pub at_state : ℕ → ℕ → List ℕ → ℕ → Tree → List Rec
at_state code place ks p t = keep (has (t.kind p) ks) (state_rule code place t) p

-- what F says of the tree of the nodes that are lent, and of the holder
abbrev pub seen_among : (Tree → ℕ → List Rec) → (nodes : List ℕ) (base kind p : ℕ) (firsts : List ℕ) → Among nodes base kind p firsts → Entered
seen_among F nodes base kind p firsts T = on (λ t. F t T.holder) (tree_of T.view)
