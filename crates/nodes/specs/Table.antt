-- A table of one mark, a Bool or a node or what A is, for each of 1,024 names, by name number less one: what it says of the bytes of each name; and what nodes make of a mark, one after another.
use Rattle.std.specs.Prelude.{ℕ, zero, suc, ◌+◌, ◌-◌, ◌≤◌, ◌≡◌, List, length, get_or}
use Rattle.image.specs.Maxima.{max_names}
use Rattle.image.specs.Admit.{name_count}
use Rattle.nodes.specs.Shown.{name_text}

pub record Table {A : Type 0} (d : A) (s : List ℕ) (F : List ℕ → A) (r : List A) : Type 0 where
  pub size : length r ≡ max_names
  pub mark : (x : ℕ) → 1 ≤ x → x ≤ name_count s → get_or r (x - 1) d ≡ F (name_text s x)

-- a function that is lent a table changes what it says of w from v to G x w v, whichever x the nodes are seen by
abbrev pub Changed : {A : Type 0} → A → {X : Type 0} → (X → List ℕ) → (X → List ℕ → A → A) → List A → List A → Type 0
Changed {A} d {X} image G r r' = (x : X) (F : List ℕ → A) → Table d (image x) F r → Table d (image x) (λ w. G x w (F w)) r'

-- what the nodes from a on, n of them, make of v: node i makes f i u of u
unfoldable pub folded : {A : Type 0} → (ℕ → A → A) → A → ℕ → ℕ → A
folded f v a zero = v
folded f v a (suc n) = f (a + n) (folded f v a n)
