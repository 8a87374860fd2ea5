-- E4 of document 02: what a 62 points at. Its related word is a use of the row; it is 0 only where the row has none, and is refused for
-- its burn marks alone.
use Prim.Native.Nat.{ℕ, ◌+◌, ◌<◌}
use mathlib.Core.Path.{◌≡◌, refl}
use mathlib.Core.List.Memᴰ
use mathlib.Core.List.{List, [], ◌∷◌}
use mathlib.Core.Logic.{◌⊎◌, inl, inr}
use native.Mathlib.Omega.{arith}
use lib.ListN.{length}
use Rattle.rules.specs.Tree.{Tree, entry}
use Rattle.rules.specs.Vocabulary.{Below, AllOf, place_of, related_use}
use Rattle.rules.specs.Linear.{Row, Use, Offence62}

points : (t : Tree) (e x : ℕ) (m l : List ℕ) → AllOf (Use t e x) l → 1 < length m + length l → Use t e x (related_use m l) ⊎ ((related_use m l ≡ 0) × ((i : ℕ) → Use t e x i → ⊥))
points t e x [] [] U n = absurd (omega arith)
points t e x [] (i ∷ []) U n = absurd (omega arith)
points t e x [] (i ∷ j ∷ l) U n = inl (U.sound j (Memᴰ.tail (Memᴰ.head refl)))
points t e x (y ∷ m) [] U n = inr (refl, λ i u. Memᴰ.not-nil (U.complete i u))
points t e x (y ∷ m) (i ∷ l) U n = inl (U.sound i (Memᴰ.head refl))

-- of the row that a 62 stands at
pub points-at-use : (t : Tree) (p q : ℕ) → Offence62 t p q
    → (e : ℕ) × (x : ℕ) × Below t entry t.root e × Row t e x × (p ≡ place_of t x) × (Use t e x q ⊎ ((q ≡ 0) × ((i : ℕ) → Use t e x i → ⊥)))
points-at-use t p q o =
    let u = points t o.0 o.1 o.2 o.3 o.9 o.10 in
    (o.0, o.1, o.6, o.7, o.4, rw o.5 u)
