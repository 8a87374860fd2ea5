-- Where no such node is there, nothing is noted.
use Prim.Native.Nat.{ℕ, zero, suc, ◌+◌, ◌-◌, ◌<◌, ◌≤◌}
use mathlib.Core.Path.{◌≡◌, refl, ap, ◌∙◌}
use mathlib.Core.Bool.{Bool, false}
use mathlib.Core.List.{List}
use native.Mathlib.Omega.{arith}
use Rattle.rules.specs.Sweep.{also, has}
use Rattle.rules.specs.Tree.{Tree}
use Rattle.rules.specs.Vocabulary.{named}
use Rattle.nodes.specs.Table.{folded}
use Rattle.places.specs.declared.Note.{Note}
use Rattle.places.specs.Places.{noting, notes, notes_below}

folded-idle : (f : ℕ → ℕ → ℕ) (v a n : ℕ) → ((i u : ℕ) → a ≤ i → i < a + n → f i u ≡ u) → folded f v a n ≡ v
unfolding folded
folded-idle f v a zero h = refl
folded-idle f v a (suc n) h = h (a + n) (folded f v a n) (omega arith) (omega arith) ∙ folded-idle f v a n (λ i u l g. h i u l (omega arith))

pub none-to-note : (note : Note) (t : Tree) (ks : List ℕ) (a : ℕ) → ((i : ℕ) → a < i → i < t.end a → has (t.kind i) ks ≡ false) → (w : List ℕ) (v : ℕ) → notes_below note t ks a w v ≡ v
unfolding notes_below notes
none-to-note note t ks a n w v = folded-idle _ v (suc a) (t.end a - suc a) (λ i u l h. ap (λ (b : Bool). noting note u (also b (named t w) i) i) (n i (omega arith) (omega arith)))
