-- Laws of a list of entries, two words each: how long it is, that it is settled by what its entries say, and which entries it has.
use Prim.Native.Nat.{ℕ, ◌*◌}
use mathlib.Core.Path.{◌≡◌, refl, ap₂}
use mathlib.Core.List.{List, [], ◌∷◌, ◌++◌, Memᴰ}
use mathlib.Core.Logic.{inl, inr, ⊎_elim}
use native.Mathlib.Omega.{arith}
use lib.ListN.{length}
use Rattle.reasons.specs.Reasons.{Said}
use Rattle.reasons.specs.Compute.{each}
use Rattle.reasons.specs.Demands.{HasEntry}

module _ (E : ℕ → ℕ → ℕ → Type 0) where
  -- two words for each node
  pub said_each : (a b : ℕ → ℕ) (l : List ℕ) → ((x : ℕ) → Memᴰ x l → E x (a x) (b x)) → Said E l (each (λ x. a x ∷ b x ∷ []) l)
  unfolding each
  said_each a b [] h = tt
  said_each a b (x ∷ l) h = (h x (mathlib.Core.List.Memᴰ.head refl), said_each a b l (λ y m. h y (mathlib.Core.List.Memᴰ.tail m)))

  pub said-long : (l w : List ℕ) → Said E l w → length w ≡ 2 * length l
  said-long [] [] s = refl
  said-long [] (a ∷ w) s = absurd s
  said-long (x ∷ l) [] s = absurd s
  said-long (x ∷ l) (a ∷ []) s = absurd s
  said-long (x ∷ l) (a ∷ b ∷ w) s = let i = said-long l w s.1 in omega arith

  -- where an entry's words are settled, so is the list
  pub said-one : (l v w : List ℕ) → ((x a b c d : ℕ) → Memᴰ x l → E x a b → E x c d → (a ≡ c) × (b ≡ d)) → Said E l v → Said E l w → v ≡ w
  said-one [] [] [] h s r = refl
  said-one [] (a ∷ v) w h s r = absurd s
  said-one [] [] (c ∷ w) h s r = absurd r
  said-one (x ∷ l) [] w h s r = absurd s
  said-one (x ∷ l) (a ∷ []) w h s r = absurd s
  said-one (x ∷ l) (a ∷ b ∷ v) [] h s r = absurd r
  said-one (x ∷ l) (a ∷ b ∷ v) (c ∷ []) h s r = absurd r
  said-one (x ∷ l) (a ∷ b ∷ v) (c ∷ d ∷ w) h s r =
      let e = h x a b c d (mathlib.Core.List.Memᴰ.head refl) s.0 r.0 in
      ap₂ ◌∷◌ e.0 (ap₂ ◌∷◌ e.1 (said-one l v w (λ y f g i j m. h y f g i j (mathlib.Core.List.Memᴰ.tail m)) s.1 r.1))

  -- each node has its entry; it is found behind other entries too
  pub said-entry : (l w : List ℕ) (x : ℕ) → ((y a b : ℕ) → E y a b → a ≡ y) → Said E l w → Memᴰ x l → (b : ℕ) × HasEntry x b w
  said-entry [] w x h s m = absurd (mathlib.Core.List.Memᴰ.not-nil m)
  said-entry (y ∷ l) [] x h s m = absurd s
  said-entry (y ∷ l) (a ∷ []) x h s m = absurd s
  said-entry (y ∷ l) (a ∷ b ∷ w) x h s m =
      ⊎_elim
      (λ (e : x ≡ y). let d = h y a b s.0 in (b, inl (omega arith, refl)))
      (λ (n : Memᴰ x l). let i = said-entry l w x h s.1 n in (i.0, inr i.1))
      (mathlib.Core.List.Memᴰ.cases_cons m)

  pub entry-behind : (l v u : List ℕ) (a b : ℕ) → Said E l v → HasEntry a b u → HasEntry a b (v ++ u)
  entry-behind [] [] u a b s e = e
  entry-behind [] (c ∷ v) u a b s e = absurd s
  entry-behind (x ∷ l) [] u a b s e = absurd s
  entry-behind (x ∷ l) (c ∷ []) u a b s e = absurd s
  entry-behind (x ∷ l) (c ∷ d ∷ v) u a b s e = inr (entry-behind l v u a b s.1 e)
