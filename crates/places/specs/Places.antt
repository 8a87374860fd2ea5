-- A table of nodes by name: what it notes for the bytes of each name; 0 where it notes none.
use Rattle.std.specs.Prelude.{ℕ, suc, ◌-◌, Bool, List, eqb}
use Rattle.image.specs.Pick.{pick}
use Rattle.rules.specs.Sweep.{also, has}
use Rattle.rules.specs.Tree.{Tree}
use Rattle.rules.specs.Vocabulary.{named}
use Rattle.nodes.specs.Shown.{View}
use Rattle.nodes.specs.Table.{Table, Changed, folded}
use Rattle.places.specs.declared.Note.{Note}
use Rattle.places.specs.declared.Note.TheVariants.{First, Last, Off}

abbrev pub Places : List ℕ → (List ℕ → ℕ) → List ℕ → Type 0
Places s F r = Table 0 s F r

-- what is noted in place of v at node i; the same where a test holds
abbrev pub taken : Note → ℕ → ℕ → ℕ
taken First v i = pick (eqb v 0) i v
taken Last v i = i
taken Off v i = 0

abbrev pub noting : Note → ℕ → Bool → ℕ → ℕ
noting note v b i = pick b (taken note v i) v

-- v was noted, and then the nodes from a on that pass the test, n nodes
unfoldable pub notes : Note → (ℕ → Bool) → ℕ → ℕ → ℕ → ℕ
notes note p v a n = folded (λ i u. noting note u (p i) i) v a n

-- i is a node of kind ks whose Name is w
abbrev pub is_named : Tree → List ℕ → List ℕ → ℕ → Bool
is_named t ks w i = also (has (t.kind i) ks) (named t w) i

-- the nodes of kind ks below a whose Name is w
unfoldable pub notes_below : Note → Tree → List ℕ → ℕ → List ℕ → ℕ → ℕ
notes_below note t ks a w v = notes note (is_named t ks w) v (suc a) (t.end a - suc a)

-- the first, the last of them; 0 if there is none
abbrev pub first_of : Tree → List ℕ → ℕ → List ℕ → ℕ
first_of t ks a w = notes_below First t ks a w 0

abbrev pub last_of : Tree → List ℕ → ℕ → List ℕ → ℕ
last_of t ks a w = notes_below Last t ks a w 0

-- a function that is lent a table changes what it notes for w from v to G w v, whichever x the nodes are seen by
abbrev pub Noted : {X : Type 0} → (X → List ℕ) → (X → List ℕ → ℕ → ℕ) → List ℕ → List ℕ → Type 0
Noted image G r r' = Changed 0 image G r r'

abbrev pub Notes : {part : List ℕ} {b : ℕ} → (View part b → List ℕ → ℕ → ℕ) → List ℕ → List ℕ → Type 0
Notes G places places' = Noted (λ W. W.image) G places places'
