-- The nodes of an image in which `Q_Asset` has the number `asset`, and the names inside its types ("Known assets" of document 01, "Model").
use Rattle.std.specs.Prelude.{ℕ, ◌-◌, ◌<◌, ◌≤◌, ◌≡◌, Bool, true, false, List}
use Rattle.image.specs.Maxima.{max_nodes}
use Rattle.rules.specs.Sweep.{also, some, has, same}
use Rattle.rules.specs.Tree.{type, type_holders}
use Rattle.rules.specs.Vocabulary.{some_below}
use Rattle.rules.specs.Words.{QTOV, Q_Asset}
use Rattle.rules.specs.Model.{inner, is_declared_asset, is_known_asset}
use Rattle.nodes.specs.Shown.{View, In, tree_of}
use Rattle.nodes.specs.Marks.{Marks, Turned}
use Rattle.nodes.specs.Walk.{onward}
use Rattle.names.specs.Found.{Numbered}

pub record Assets (nodes : List ℕ) (asset : ℕ) : Type 0 where
  pub view : View nodes 0
  pub numbered : Numbered view.image Q_Asset asset

-- `QTOV` has the number `qtov` too
pub record AssetWords (nodes : List ℕ) (qtov asset : ℕ) : Type 0 where
  pub view : View nodes 0
  pub qtov_is : Numbered view.image QTOV qtov
  pub asset_is : Numbered view.image Q_Asset asset

-- all types of node p stand before r, and a walk over the types from p on goes on to r and not past it
pub record TypesEnd {nodes : List ℕ} (W : View nodes 0) (p r : ℕ) : Type 0 where
  pub after : p < r
  pub inside : r ≤ (tree_of W).end p
  pub stays : (i : ℕ) → p ≤ i → i < r → onward (tree_of W) type_holders i ≤ r
  pub none : (i : ℕ) → r ≤ i → i < (tree_of W).end p → has ((tree_of W).kind i) type ≡ false

-- w is the name inside node y, a Type named `Q_Asset`
abbrev pub inside_at : {nodes : List ℕ} {asset : ℕ} → ℕ → Assets nodes asset → List ℕ → Bool
inside_at y A w = also (has ((tree_of A.view).kind y) type) (inner (tree_of A.view) w) y

-- the Name r is the one inside node y; r is 0 where no name is
pub record Inside {nodes : List ℕ} {asset : ℕ} (A : Assets nodes asset) (y r : ℕ) : Type 0 where
  pub under : r < max_nodes
  pub none : r ≡ 0 → (w : List ℕ) → inside_at y A w ≡ false
  pub here : 0 < r → In nodes 0 r
  pub name : 0 < r → (tree_of A.view).kind r ≡ 23
  pub is : 0 < r → (w : List ℕ) → inside_at y A w ≡ same ((tree_of A.view).text r) w

-- it is inside one of the types of an item
abbrev pub inside_item : {nodes : List ℕ} {asset : ℕ} → ℕ → Assets nodes asset → List ℕ → Bool
inside_item p A w = some (λ y. inside_at y A w) p ((tree_of A.view).end p - p)

-- it is inside one of the contract's types
abbrev pub inside : {nodes : List ℕ} {asset : ℕ} → Assets nodes asset → List ℕ → Bool
inside A w = some_below (tree_of A.view) type 0 (inner (tree_of A.view) w)

-- a function that is lent a table sets the marks of the words that G names
abbrev pub Gains : {nodes : List ℕ} {asset : ℕ} → (Assets nodes asset → List ℕ → Bool) → List Bool → List Bool → Type 0
Gains G known known' = Turned true (λ A. A.view.image) G known known'

-- a function that is lent a table in which the declared assets are marked marks the other known assets
abbrev pub Knows : (nodes : List ℕ) (qtov asset : ℕ) → List Bool → List Bool → Type 0
Knows nodes qtov asset known known' = (K : AssetWords nodes qtov asset) → Marks K.view.image (is_declared_asset (tree_of K.view)) known → Marks K.view.image (is_known_asset (tree_of K.view)) known'
