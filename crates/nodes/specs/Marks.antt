-- A table of marks by name; marks set, or taken off, by tests.
use Rattle.std.specs.Prelude.{ℕ, Bool, false, not, List}
use Rattle.image.specs.Pick.{pick, both}
use Rattle.rules.specs.Sweep.{either}
use Rattle.rules.specs.Tree.{Tree}
use Rattle.nodes.specs.Shown.{View, tree_of}
use Rattle.nodes.specs.Table.{Table, Changed}

abbrev pub Marks : List ℕ → (List ℕ → Bool) → List Bool → Type 0
Marks s P r = Table false s P r

-- a mark is set, or taken off, where the second test holds
unfoldable pub marking : Bool → Bool → Bool → Bool
marking on a b = pick on (either a b) (both a (not b))

-- a function that is lent a table sets, or takes off, the marks of the words that G names, whichever x the nodes are seen by
abbrev pub Turned : Bool → {X : Type 0} → (X → List ℕ) → (X → List ℕ → Bool) → List Bool → List Bool → Type 0
Turned on image G r r' = Changed false image (λ x w v. marking on v (G x w)) r r'

abbrev pub Turns : Bool → {part : List ℕ} {b : ℕ} → (View part b → List ℕ → Bool) → List Bool → List Bool → Type 0
Turns on G marks marks' = Turned on (λ W. W.image) G marks marks'

-- a function that is lent the nodes of an image and a table with no name marked marks the names that P names
abbrev pub Made : (Tree → List ℕ → Bool) → List ℕ → List Bool → List Bool → Type 0
Made P nodes r r' = (W : View nodes 0) → Marks W.image (λ w. false) r → Marks W.image (P (tree_of W)) r'

abbrev pub Makes : (Tree → List ℕ → Bool) → List ℕ → List Bool → List Bool → Type 0
Makes P nodes marks marks' = Made P nodes marks marks'
