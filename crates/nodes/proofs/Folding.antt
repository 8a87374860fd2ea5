-- A loop that changes a table node by node: after the nodes from `from` up to p, what it says of each word is what these nodes make of it.
use Prim.Native.Nat.{ℕ, zero, suc, ◌+◌, ◌-◌, ◌<◌, ◌≤◌}
use mathlib.Core.Path.{◌≡◌, ap, ◌∙◌, sym}
use mathlib.Core.Bool.{Bool, false}
use mathlib.Core.List.{List}
use native.Mathlib.Nat.{sub_self}
use native.Mathlib.Omega.{arith}
use Rattle.nodes.specs.Table.{Changed, folded}
use Rattle.nodes.proofs.Names.{marks-as}

module _ {A : Type 0} (f : ℕ → A → A) (v : A) (a : ℕ) where
  pub folded-none : folded f v a (a - a) ≡ v
  unfolding folded
  folded-none = rw (sub_self a)

  folded-next : (i : ℕ) → a ≤ i → folded f v a (i + 1 - a) ≡ f i (folded f v a (i - a))
  unfolding folded
  folded-next i l =
      let e : i + 1 - a ≡ suc (i - a) = omega arith in
      let z : a + (i - a) ≡ i = omega arith in
      ap (folded f v a) e ∙ ap (λ (j : ℕ). f j (folded f v a (i - a))) z

  -- nodes that change nothing
  pub folded-still : (i n : ℕ) → a ≤ i → ((j : ℕ) → i ≤ j → j < i + n → (u : A) → f j u ≡ u) → folded f v a (i + n - a) ≡ folded f v a (i - a)
  folded-still i zero l z = let e : i + zero ≡ i = omega arith in ap (λ (j : ℕ). folded f v a (j - a)) e
  folded-still i (suc n) l z =
      let e : i + suc n ≡ i + n + 1 = omega arith in
      ap (λ (j : ℕ). folded f v a (j - a)) e ∙ folded-next (i + n) (omega arith) ∙ z (i + n) (omega arith) (omega arith) (folded f v a (i + n - a)) ∙ folded-still i n l (λ j g h. z j g (omega arith))

  pub folded_on : (i q : ℕ) → a ≤ i → i < q → ((j : ℕ) → i < j → j < q → (u : A) → f j u ≡ u) → folded f v a (q - a) ≡ f i (folded f v a (i - a))
  folded_on i q l h z =
      let e : i + 1 + (q - (i + 1)) ≡ q = omega arith in
      ap (λ (j : ℕ). folded f v a (j - a)) (sym e) ∙ folded-still (i + 1) (q - (i + 1)) (omega arith) (λ j g k. z j (omega arith) (omega arith)) ∙ folded-next i l

-- The invariant of every such loop: node i makes step b v (G x w i) i of the mark v of the word w, whichever x the nodes are seen by, with the image of x.
-- A node that fails the test makes no change. The step is a family, with b apart, so that b and G are read off an invariant's type.
pub record Folding {A B : Type 0} (d : A) (step : B → A → Bool → ℕ → A) (b : B) {X : Type 0} (image : X → List ℕ) (G : X → List ℕ → ℕ → Bool) (from to : ℕ) (r₀ r : List A) (p : ℕ) : Type 0 where
  pub keeps : (v : A) (i : ℕ) → step b v false i ≡ v
  pub low : from ≤ p
  pub high : p ≤ to
  pub changed : Changed d image (λ x w v. folded (λ i u. step b u (G x w i) i) v from (p - from)) r₀ r

module _ {A B : Type 0} {d : A} {step : B → A → Bool → ℕ → A} {b : B} {X : Type 0} {image : X → List ℕ} {G : X → List ℕ → ℕ → Bool} {from to : ℕ} {r₀ : List A} where
  pub folding-starts : ((v : A) (i : ℕ) → step b v false i ≡ v) → from ≤ to → Folding d step b image G from to r₀ r₀ from
  folding-starts k h = record { keeps = k; low = omega arith; high = h; changed = λ x F T. marks-as (λ w. sym (folded-none (λ i u. step b u (G x w i) i) (F w) from)) T }

  -- on to q, past nodes where the test fails
  pub folding-on : {r r' : List A} {p q : ℕ} → Folding d step b image G from to r₀ r p → Changed d image (λ x w v. step b v (G x w p) p) r r'
      → p < q → q ≤ to → ((x : X) (w : List ℕ) (j : ℕ) → p < j → j < q → G x w j ≡ false) → Folding d step b image G from to r₀ r' q
  folding-on {r} {r'} {p} {q} m f h g z = record {
    keeps = m.keeps;
    low = let i = m.low in omega arith;
    high = g;
    changed = λ x F T.
        marks-as
        (λ w. sym (folded_on (λ i u. step b u (G x w i) i) (F w) from p q m.low h (λ j a c u. ap (λ (t : Bool). step b u t j) (z x w j a c) ∙ m.keeps u j)))
        (f x (λ w. folded (λ i u. step b u (G x w i) i) (F w) from (p - from)) (m.changed x F T));
  }

  pub folding-again : {r r' : List A} {p : ℕ} → Folding d step b image G from to r₀ r p → Changed d image (λ x w v. step b v (G x w p) p) r r' → p < to → Folding d step b image G from to r₀ r' (p + 1)
  folding-again m f h = folding-on m f (omega arith) (omega arith) (λ x w j a c. absurd (omega arith))

  pub folding-done : {r : List A} {p : ℕ} → Folding d step b image G from to r₀ r p → to ≤ p → Changed d image (λ x w v. folded (λ i u. step b u (G x w i) i) v from (to - from)) r₀ r
  folding-done {r} {p} m h x F T = let i = m.high in let e : p ≡ to = omega arith in rw e at (m.changed x F T)
