-- A table by node number: a node that is put into one cell, and into those that a walk from node to node names; what that settles.
use Prim.Native.Nat.{ℕ, ◌-◌, ◌<◌, ◌≤◌}
use mathlib.Core.Path.{◌≡◌, refl, ap, ◌∙◌, sym}
use mathlib.Core.Bool.{Bool, true, false}
use mathlib.Core.List.{List}
use mathlib.Core.Logic.{⊎_elim}
use native.Mathlib.Nat.{sub_self}
use native.Mathlib.Omega.{arith}
use borrow.Author.Tests.{eq-eqb, ne_eqb}
use lib.Dec.{eqb}
use lib.ListN.{length, get_or, set, length-set}
use lib.Seq.{ext_get_or, get_or-set_same, get_or-set_other}
use Rattle.image.specs.Pick.{pick}
use Rattle.image.proofs.Decide.{eq-or-ne}
use Rattle.rules.specs.Sweep.{either, some}
use Rattle.nodes.proofs.Marking.{some-on}
use Rattle.linear_occurrences.specs.Counted.{Cells, Puts}

pub cells-as : {P Q : ℕ → ℕ} {r : List ℕ} → ((i : ℕ) → P i ≡ Q i) → Cells P r → Cells Q r
cells-as f C = record { size = C.size; cell = λ i l. C.cell i l ∙ f i }

-- the cells as they stand
pub cells_self : {r : List ℕ} → length r ≡ 2048 → Cells (λ i. get_or r i 0) r
cells_self e = record { size = e; cell = λ i l. refl }

module _ (c : ℕ) {P : ℕ → ℕ} {r : List ℕ} (C : Cells P r) where
  pub cells-none : {G : ℕ → Bool} → ((i : ℕ) → G i ≡ false) → Cells (λ i. pick (G i) c (P i)) r
  cells-none f = cells-as (λ i. sym (ap (λ (b : Bool). pick b c (P i)) (f i))) C

  pub cells-one : {y : ℕ} → y < 2048 → Cells (λ i. pick (eqb y i) c (P i)) (set r y c)
  cells-one {y} h = record { size = length-set r y c ∙ C.size; cell = λ i l. ⊎_elim (same i l) (other i l) (eq-or-ne y i) }
    where
      same : (i : ℕ) → i < 2048 → y ≡ i → get_or (set r y c) i 0 ≡ pick (eqb y i) c (P i)
      same i l q = let z = C.size in rw q (get_or-set_same r i c 0 (omega arith) ∙ sym (ap (λ (b : Bool). pick b c (P i)) (eq-eqb i i refl)))

      other : (i : ℕ) → i < 2048 → (y ≡ i → ⊥) → get_or (set r y c) i 0 ≡ pick (eqb y i) c (P i)
      other i l n = get_or-set_other r y i c 0 (λ q. n (sym q)) ∙ C.cell i l ∙ sym (ap (λ (b : Bool). pick b c (P i)) (ne_eqb y i n))

-- what a contract by `Puts` settles: two tables that it allows are one
pub puts-settle : {X : Type 0} (c : ℕ) (G : X → ℕ → Bool) (r : List ℕ) {r' r'' : List ℕ} → X → length r ≡ 2048 → Puts c G r r' → Puts c G r r'' → r' ≡ r''
puts-settle c G r {r'} {r''} x e f g =
    let C : Cells (λ i. pick (G x i) c (get_or r i 0)) r' = f x _ (cells_self e) in
    let D : Cells (λ i. pick (G x i) c (get_or r i 0)) r'' = g x _ (cells_self e) in
    let l = C.size in
    ext_get_or 0 r' r'' (l ∙ sym D.size) (λ i h. C.cell i (omega arith) ∙ sym (D.cell i (omega arith)))

-- one test after another
pick-either : (a b : Bool) (c v : ℕ) → pick b c (pick a c v) ≡ pick (either a b) c v
pick-either true true c v = refl
pick-either true false c v = refl
pick-either false b c v = refl

-- The invariant of a walk: each node from `from` up to p has put c where G says, whichever x the nodes are seen by.
pub record Putting (c : ℕ) {X : Type 0} (G : X → ℕ → ℕ → Bool) (from to : ℕ) (r₀ r : List ℕ) (p : ℕ) : Type 0 where
  pub low : from ≤ p
  pub high : p ≤ to
  pub puts : Puts c (λ x i. some (G x i) from (p - from)) r₀ r

module _ {c : ℕ} {X : Type 0} {G : X → ℕ → ℕ → Bool} {from to : ℕ} {r₀ : List ℕ} where
  pub putting-starts : from ≤ to → Putting c G from to r₀ r₀ from
  unfolding some
  putting-starts h = record { low = omega arith; high = h; puts = λ x P C. cells-none c C (λ i. ap (some (G x i) from) (sub_self from)) }

  -- on to q, past nodes that put nothing: the next child
  pub putting-on : {r r' : List ℕ} {p q : ℕ} → Putting c G from to r₀ r p → Puts c (λ x i. G x i p) r r' → p < q → q ≤ to → ((x : X) (i j : ℕ) → p < j → j < q → G x i j ≡ false) → Putting c G from to r₀ r' q
  putting-on {r} {r'} {p} {q} m f h g z = record {
    low = let i = m.low in omega arith;
    high = g;
    puts = λ x P C.
        cells-as
        (λ i. pick-either (some (G x i) from (p - from)) (G x i p) c (P i) ∙ ap (λ (b : Bool). pick b c (P i)) (sym (some-on (G x i) from p q m.low h (z x i))))
        (f x (λ i. pick (some (G x i) from (p - from)) c (P i)) (m.puts x P C));
  }

  pub putting-done : {r : List ℕ} {p : ℕ} → Putting c G from to r₀ r p → to ≤ p → Puts c (λ x i. some (G x i) from (to - from)) r₀ r
  putting-done {r} {p} m h = let i = m.high in let e : p ≡ to = omega arith in rw e at m.puts
