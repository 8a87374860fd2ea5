-- The entries that code 23 is about: one, two of them, and the names of those before a node.
use Rattle.std.specs.Prelude.{ℕ, ◌-◌, ◌<◌, ◌≡◌, Bool, false, List, []}
use Rattle.rules.specs.Sweep.{either, keep, some, also, has}
use Rattle.rules.specs.Tree.{Tree, entry}
use Rattle.rules.specs.Vocabulary.{Rec, named}
use Rattle.rules.specs.Resolve.{rule23}
use Rattle.nodes.specs.Shown.{View, In, tree_of}
use Rattle.nodes.specs.Chain.{Gave}
use Rattle.nodes.specs.declared.walk.Children.{Children}
use Rattle.nodes.specs.Marks.{Marks}

-- an entry before node p has the name w
unfoldable pub earlier : Tree → ℕ → List ℕ → Bool
earlier t p w = some (λ i. also (has (t.kind i) entry) (named t w) i) 1 (p - 1)

-- two entries
pub record Entries (nodes : List ℕ) (g e : ℕ) : Type 0 where
  pub view : View nodes 0
  pub there_g : In nodes 0 g
  pub there_e : In nodes 0 e
  pub is_g : (tree_of view).kind g ≡ 9
  pub is_e : (tree_of view).kind e ≡ 9

-- an entry
pub record EntryAt (nodes : List ℕ) (e : ℕ) : Type 0 where
  pub view : View nodes 0
  pub here : In nodes 0 e
  pub low : 0 < e
  pub is : (tree_of view).kind e ≡ 9

-- the marks of the names that entries before node p have
pub record Seen (nodes : List ℕ) (p : ℕ) (seen : List Bool) : Type 0 where
  pub view : View nodes 0
  pub marks : Marks view.image (earlier (tree_of view) p) seen

-- 23 at an item
abbrev pub at23 : ℕ → Tree → List Rec
at23 p t = keep (has (t.kind p) entry) (rule23 t) p

-- the name of p, if it is an Entry, is marked too
abbrev pub noted_entry : Tree → ℕ → List ℕ → Bool
noted_entry t p w = either (earlier t p w) (also (has (t.kind p) entry) (named t w) p)

-- the answer no: no record is due at p, and its name is marked too
abbrev pub Passes : (nodes : List ℕ) (p : ℕ) (seen seen' : List Bool) → Bool → Type 0
Passes nodes p seen seen' r = (S : Seen nodes p seen) → r ≡ false → (at23 p (tree_of S.view) ≡ []) × Marks S.view.image (noted_entry (tree_of S.view) p) seen'

-- a walk over children that went on: it stays in its part and keeps its end
pub record NextParam (s t : Children) : Type 0 where
  pub nodes : t.nodes.now ≡ s.nodes.now
  pub base : t.rest.base ≡ s.rest.base
  pub last : t.rest.end ≡ s.rest.end

-- it gave a parameter; and it stood at none
pub record AtParam (s t : Children) (p : ℕ) : Type 0 where
  pub step : Gave s.nodes.now s.rest.base s.rest.at s.rest.end p t.rest.at
  pub is : (W : View s.nodes.now 0) → (tree_of W).kind p ≡ 10

pub record AtNoParam (s : Children) : Type 0 where
  pub is : (W : View s.nodes.now 0) → s.rest.at < s.rest.end → (tree_of W).kind s.rest.at ≡ 10 → ⊥
