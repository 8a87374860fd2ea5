-- What the searches for 34 and 40 are lent: nodes, the number of a word, and tables by name number; what each of them says.
use Rattle.std.specs.Prelude.{ℕ, ◌-◌, Bool, List}
use Rattle.image.specs.Pick.{pick, both}
use Rattle.rules.specs.Sweep.{run, keep, also, has, has_word}
use Rattle.rules.specs.Tree.{Tree, field, param, call}
use Rattle.rules.specs.Words.{Q_Address, builtins, methods}
use Rattle.rules.specs.Vocabulary.{Rec, some_below, named, typed}
use Rattle.rules.specs.Model.{is_state_typed}
use Rattle.rules.specs.Resolve.{rule34, rule40}
use Rattle.records.specs.Records.{Entered, on}
use Rattle.nodes.specs.Shown.{View, tree_of}
use Rattle.nodes.specs.Marks.{Marks, Turned}
use Rattle.names.specs.Found.{Numbered}

abbrev pub is_builtin : List ℕ → Bool
is_builtin w = has_word w builtins

abbrev pub is_method : List ℕ → Bool
is_method w = has_word w methods

-- the parameter x has the name w and is of type `Q_Address`; a parameter of the entry e is so
abbrev pub param_at : Tree → List ℕ → ℕ → Bool
param_at t w x = both (named t w x) (typed t Q_Address x)

abbrev pub param_typed : Tree → ℕ → List ℕ → Bool
param_typed t e w = some_below t param e (param_at t w)

-- nodes, with the number of `Q_Address`
pub record AddressTyping (nodes : List ℕ) (address : ℕ) : Type 0 where
  pub view : View nodes 0
  pub address_number : Numbered view.image Q_Address address

-- nodes from `base` on, with the words that a Call may call
pub record CallWords (nodes : List ℕ) (base : ℕ) (builtin method : List Bool) : Type 0 where
  pub view : View nodes base
  pub builtin_marks : Marks view.image is_builtin builtin
  pub method_marks : Marks view.image is_method method

-- with the state fields and an entry's parameters that are of type `Q_Address`
pub record Calling (nodes : List ℕ) (base : ℕ) (fields params : List Bool) : Type 0 where
  pub view : View nodes base
  pub field_marks : Marks view.image (is_state_typed (tree_of view) Q_Address) fields
  pub entry : ℕ
  pub param_marks : Marks view.image (param_typed (tree_of view) entry) params

-- 34, 40 at a node
abbrev pub at34 : ℕ → Tree → List Rec
at34 p t = keep (has (t.kind p) call) (rule34 t) p

abbrev pub at40 : ℕ → Tree → ℕ → List Rec
at40 p t e = keep (has (t.kind p) call) (rule40 t e) p

-- what F says of the tree of the nodes that are lent; of the tree and the entry
abbrev pub known : (Tree → List Rec) → (nodes : List ℕ) (base : ℕ) (builtin method : List Bool) → CallWords nodes base builtin method → Entered
known F nodes base builtin method T = on F (tree_of T.view)

abbrev pub called : (Tree → ℕ → List Rec) → (nodes : List ℕ) (base : ℕ) (fields params : List Bool) → Calling nodes base fields params → Entered
called F nodes base fields params T = on (λ t. F t T.entry) (tree_of T.view)

-- 34, 40 at all of the nodes that are lent
abbrev pub swept34 : (nodes : List ℕ) (base : ℕ) (builtin method : List Bool) → CallWords nodes base builtin method → Entered
swept34 nodes base builtin method T = on (λ t. run (λ p. at34 p t) base (T.view.upto - base)) (tree_of T.view)

abbrev pub swept40 : (nodes : List ℕ) (base : ℕ) (fields params : List Bool) → Calling nodes base fields params → Entered
swept40 nodes base fields params T = on (λ t. run (λ p. at40 p t T.entry) base (T.view.upto - base)) (tree_of T.view)

-- the mark of a FieldDecl's Name says whether it is of type `Q_Address`: a later one of the same name replaces the earlier one's
abbrev pub field_at : Tree → List ℕ → ℕ → Bool
field_at t w i = also (has (t.kind i) field) (named t w) i

abbrev pub TypesField : (nodes : List ℕ) (p address : ℕ) → List Bool → List Bool → Type 0
TypesField nodes p address fields fields' = (T : AddressTyping nodes address) (P : List ℕ → Bool) → Marks T.view.image P fields
    → Marks T.view.image (λ w. pick (field_at (tree_of T.view) w p) (typed (tree_of T.view) Q_Address p) (P w)) fields'

-- the marks of the names that G finds, by the number of `Q_Address`, are set, or taken off
abbrev pub TurnsTyped : Bool → (nodes : List ℕ) (address : ℕ) → (Tree → List ℕ → Bool) → List Bool → List Bool → Type 0
TurnsTyped on nodes address G params params' = Turned on (λ (T : AddressTyping nodes address). T.view.image) (λ T. G (tree_of T.view)) params params'
