-- To be skipped by a reader: what only the tests and sweeps of the modules Compute.. are made of.
use Rattle.std.specs.Prelude.{ℕ, zero, suc, Bool, true, false, ◌&&◌, ◌||◌, List, [], ◌∷◌, eqb}
use Rattle.image.specs.Pick.{pick}

-- p at i, where the test holds
abbrev pub also : Bool → (ℕ → Bool) → ℕ → Bool
also true p i = p i
also false p i = false

-- the first of the n numbers from a on at which the test holds; a + n if there is none
unfoldable pub first : (ℕ → Bool) → ℕ → ℕ → ℕ
first p a zero = a
first p a (suc n) = pick (p a) a (first p (suc a) n)

-- two byte strings are one; a byte string is one of a short list's
unfoldable pub same : List ℕ → List ℕ → Bool
same [] [] = true
same [] (b ∷ w) = false
same (a ∷ v) [] = false
same (a ∷ v) (b ∷ w) = eqb a b && same v w

unfoldable pub has_word : List ℕ → List (List ℕ) → Bool
has_word w [] = false
has_word w (v ∷ vs) = same w v || has_word w vs
