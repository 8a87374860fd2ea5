-- The names inside the types of a contract, item by item: what the items before p have inside, then one item more.
use Prim.Native.Nat.{ℕ, zero, suc, ◌+◌, ◌-◌, ◌<◌, ◌≤◌}
use mathlib.Core.Path.{◌≡◌, refl, ap, ◌∙◌, sym}
use mathlib.Core.Bool.{Bool, true, false}
use mathlib.Core.List.{List}
use mathlib.Core.Logic.{⊎_elim}
use native.Mathlib.Nat.{eq-or-lt_of_le}
use native.Mathlib.Omega.{arith}
use Rattle.rules.specs.Sweep.{also, either, some}
use Rattle.rules.specs.Tree.{type}
use Rattle.rules.specs.Model.{inner}
use Rattle.nodes.specs.Shown.{tree_of}
use Rattle.nodes.specs.Marks.{Turned, marking}
use Rattle.nodes.proofs.Names.{marks-as, either-false}
use Rattle.nodes.proofs.Marking.{marking-none, some-on, marks-below}
use Rattle.names.proofs.Several.{either-assoc}
use Rattle.model.specs.Assets.{Assets, TypesEnd, inside_at, inside_item, inside}

module _ (p : ℕ → Bool) (a : ℕ) where
  some_after : (m n : ℕ) → some p a (m + n) ≡ either (some p a m) (some p (a + m) n)
  unfolding some
  some_after m zero = let e : m + zero ≡ m = omega arith in ap (some p a) e ∙ sym (either-false (some p a m))
  some_after m (suc n) =
      let e : m + suc n ≡ suc (m + n) = omega arith in
      let d : a + (m + n) ≡ a + m + n = omega arith in
      ap (some p a) e ∙ ap (λ (b : Bool). either b (p (a + (m + n)))) (some_after m n) ∙ ap (λ (k : ℕ). either (either (some p a m) (some p (a + m) n)) (p k)) d ∙ either-assoc (some p a m) (some p (a + m) n) (p (a + m + n))

  -- one range after another
  some-parts : (i q : ℕ) → a ≤ i → i ≤ q → some p a (q - a) ≡ either (some p a (i - a)) (some p i (q - i))
  some-parts i q l h =
      let e : i - a + (q - i) ≡ q - a = omega arith in
      let d : a + (i - a) ≡ i = omega arith in
      ap (some p a) (sym e) ∙ some_after (i - a) (q - i) ∙ ap (λ (k : ℕ). either (some p a (i - a)) (some p k (q - i))) d

  -- none behind r
  some-sooner : (r q : ℕ) → a ≤ r → r ≤ q → ((j : ℕ) → r ≤ j → j < q → p j ≡ false) → some p a (q - a) ≡ some p a (r - a)
  some-sooner r q l h z =
      ⊎_elim (λ (d : r ≡ q). ap (λ (k : ℕ). some p a (k - a)) (sym d))
      (λ (d : r < q). some-on p a r q l d (λ j g k. z j (omega arith) k) ∙ ap (either (some p a (r - a))) (z r (omega arith) d) ∙ either-false (some p a (r - a)))
      (eq-or-lt_of_le h)

-- the items before p have been asked
abbrev pub Asked : (nodes : List ℕ) (asset : ℕ) → List Bool → List Bool → ℕ → Type 0
Asked nodes asset r₀ r p = Turned true (λ (A : Assets nodes asset). A.view.image) (λ A w. some (λ y. inside_at y A w) 1 (p - 1)) r₀ r

module _ {nodes : List ℕ} {asset : ℕ} where
  -- what stands behind the types of an item has nothing inside
  pub item-sooner : {p r : ℕ} (A : Assets nodes asset) → TypesEnd A.view p r → (w : List ℕ) → inside_item p A w ≡ some (λ y. inside_at y A w) p (r - p)
  item-sooner {p} {r} A T w = let a = T.after in some-sooner (λ y. inside_at y A w) p r ((tree_of A.view).end p) (omega arith) T.inside (λ j l h. ap (λ (b : Bool). also b (inner (tree_of A.view) w) j) (T.none j l h))

  pub asked-none : {r : List Bool} → Asked nodes asset r r 1
  unfolding some
  asked-none A P M = marks-as (λ w. sym (marking-none true (P w))) M

  pub asked-on : {r₀ r r' : List Bool} {p q : ℕ} → Asked nodes asset r₀ r p → Turned true (λ (A : Assets nodes asset). A.view.image) (inside_item p) r r' → 1 ≤ p → p ≤ q → ((A : Assets nodes asset) → q ≡ (tree_of A.view).end p) → Asked nodes asset r₀ r' q
  unfolding marking
  asked-on {p = p} {q = q} f g l h e A P M =
      marks-as
      (λ w.
      let G : ℕ → Bool = λ y. inside_at y A w in
      either-assoc (P w) (some G 1 (p - 1)) (some G p ((tree_of A.view).end p - p)) ∙ ap (λ (k : ℕ). either (P w) (either (some G 1 (p - 1)) (some G p (k - p)))) (sym (e A)) ∙ sym (ap (either (P w)) (some-parts G 1 p q l h)))
      (g A _ (f A P M))

  pub asked-all : {r₀ r : List Bool} {p : ℕ} → Asked nodes asset r₀ r p → ((A : Assets nodes asset) → p ≡ (tree_of A.view).end 0) → Turned true (λ (A : Assets nodes asset). A.view.image) inside r₀ r
  asked-all {p = p} f e A P M = marks-below true A.view.image P (tree_of A.view) (inner (tree_of A.view)) type 0 1 p refl (e A) (f A P M)
