-- Nodes that are alike, and what the nodes of types carry.
use Prim.Native.Nat.{ℕ, zero, suc, ◌+◌, ◌-◌, ◌<◌, ◌≤◌}
use native.Mathlib.Omega.{arith}
use mathlib.Core.Path.{◌≡◌, refl, sym, ap, ◌∙◌, subst}
use mathlib.Core.Bool.{Bool, true}
use mathlib.Core.List.{List}
use mathlib.Core.Logic.{⊎_elim}
use borrow.Author.Tests.{eqb-true, eq-eqb}
use lib.Dec.{eqb}
use Rattle.image.specs.Pick.{both, every}
use Rattle.image.specs.Node.{name_of}
use Rattle.image.specs.Text.{form_of, text_of}
use Rattle.image.specs.Tree.{carries}
use Rattle.image.specs.Admit.{refusal, node_count, name_count, nodes_of, names_of, text_part}
use Rattle.image.proofs.Decide.{eq-or-ne}
use Rattle.image.proofs.Every.{both_left, both_right, every-at}
use Rattle.image.proofs.Given.{given, unnamed, named}
use Rattle.rules.specs.Tree.{Tree, tree}
use Rattle.rules.proofs.Reflect.{Tells, tells_as, tells_both, tells-same, tells-eqb}
use Rattle.rules.proofs.Numbers.{same_numbers}
use Rattle.signature.specs.Texts.{IsType}
use Rattle.signature.specs.Alike.{same_node, same_type}

pub record Same (t : Tree) (p q : ℕ) : Type 0 where
  pub kinds : t.kind p ≡ t.kind q
  pub texts : t.text p ≡ t.text q
  pub sizes : t.end p + q ≡ t.end q + p

pub same_at : (t : Tree) {i j : ℕ} (p q : ℕ) → i ≡ p → j ≡ q → Same t i j → Same t p q
same_at t {i} {j} p q e d S = subst (λ (x : ℕ). Same t x q) e (subst (λ (x : ℕ). Same t i x) d S)

-- the types i and j, node by node
pub record Alike (t : Tree) (i j : ℕ) : Type 0 where
  pub size : t.end i + j ≡ t.end j + i
  pub each : (p q : ℕ) → i ≤ p → p < t.end i → p + j ≡ q + i → Same t p q

pub tells-node : (t : Tree) (p q : ℕ) → Tells (same_node t p q) (Same t p q)
unfolding same_node
tells-node t p q =
    tells_as
    (λ x. record { kinds = x.1.0; texts = x.0; sizes = x.1.1 })
    (λ S. (S.texts, (S.kinds, S.sizes)))
    (tells_both (tells-same (t.text p) (t.text q)) (tells_both (tells-eqb (t.kind p) (t.kind q)) (tells-eqb (t.end p + q) (t.end q + p))))

every-all : (p : ℕ → Bool) (n : ℕ) → ((k : ℕ) → k < n → p k ≡ true) → every p n ≡ true
unfolding every
every-all p zero f = refl
every-all p (suc n) f = rw (every-all p n (λ k l. f k (omega arith))) (f n (omega arith))

pub tells-type : (t : Tree) (i j : ℕ) → Tells (same_type t i j) (Alike t i j)
unfolding same_type
tells-type t i j = record { so = so; back = back }
  where
    so : both (eqb (t.end i + j) (t.end j + i)) (every (λ d. same_node t (i + d) (j + d)) (t.end i - i)) ≡ true → Alike t i j
    so e = record {
      size = eqb-true _ _ (both_left (eqb (t.end i + j) (t.end j + i)) _ e);
      each = λ p q l h d.
          let a : i + (p - i) ≡ p = omega arith in
          let b : j + (p - i) ≡ q = omega arith in
          same_at t p q a b ((tells-node t (i + (p - i)) (j + (p - i))).so (every-at (λ d. same_node t (i + d) (j + d)) (t.end i - i) (p - i) (both_right (eqb (t.end i + j) (t.end j + i)) _ e) (omega arith)));
    }

    back : Alike t i j → both (eqb (t.end i + j) (t.end j + i)) (every (λ d. same_node t (i + d) (j + d)) (t.end i - i)) ≡ true
    back A = rw (eq-eqb _ _ A.size) (every-all _ (t.end i - i) (λ d l. (tells-node t (i + d) (j + d)).back (A.each (i + d) (j + d) (omega arith) (omega arith) (omega arith))))

module _ (s : List ℕ) (adm : refusal s ≡ 0) where
  -- nodes that carry no name carry the same
  pub blank : (i j : ℕ) → i < node_count s → j < node_count s → carries ((tree s).kind i) ≡ 0 → carries ((tree s).kind j) ≡ 0 → (tree s).text i ≡ (tree s).text j
  blank i j h g a b = ap (text_of (names_of s) (text_part s)) (unnamed s (given s adm) i h a ∙ sym (unnamed s (given s adm) j g b))

  -- the form of what a node carries: of a Name, and of an IntLit of a type
  form-of : (k n : ℕ) → carries k ≡ n → 0 < n → (i : ℕ) → i < node_count s → (tree s).kind i ≡ k → form_of ((tree s).text i) ≡ n
  form-of k n c l i h e = (named s (given s adm) i h (λ z. let d : n ≡ 0 = sym c ∙ ap carries (sym e) ∙ z in omega arith)).2 ∙ ap carries e ∙ c

  pub name-form : (i : ℕ) → i < node_count s → (tree s).kind i ≡ 23 → form_of ((tree s).text i) ≡ 1
  unfolding carries
  name-form = form-of 23 1 refl (omega arith)

  pub number-form : (i : ℕ) → i < node_count s → (tree s).kind i ≡ 12 → form_of ((tree s).text i) ≡ 2
  unfolding carries
  number-form = form-of 12 2 refl (omega arith)

  pub blank-types : (i j : ℕ) → i < node_count s → j < node_count s → (k : ℕ) → carries k ≡ 0 → (tree s).kind i ≡ k → (tree s).kind j ≡ k → (tree s).text i ≡ (tree s).text j
  blank-types i j h g k z a b = blank i j h g (ap carries a ∙ z) (ap carries b ∙ z)

  -- equal numbers are equal texts
  pub number-high : (i : ℕ) → i < node_count s → name_of (nodes_of s) i ≤ name_count s
  number-high i h = ⊎_elim (λ (z : carries ((tree s).kind i) ≡ 0). let u = unnamed s (given s adm) i h z in omega arith) (λ (n : carries ((tree s).kind i) ≡ 0 → ⊥). (named s (given s adm) i h n).1) (eq-or-ne (carries ((tree s).kind i)) 0)

  pub other-texts : (i j : ℕ) → i < node_count s → j < node_count s → (name_of (nodes_of s) i ≡ name_of (nodes_of s) j → ⊥) → (tree s).text i ≡ (tree s).text j → ⊥
  other-texts i j h g n e = n (same_numbers s adm _ _ (number-high i h) (number-high j g) e)

-- a type or type argument is of one of three kinds
pub data Shape (t : Tree) (y : ℕ) : Type 0 where
  is_named : t.kind y ≡ 11 → Shape t y
  is_number : t.kind y ≡ 12 → Shape t y
  is_quorum : t.kind y ≡ 13 → Shape t y

pub shape_of : (t : Tree) (y : ℕ) → IsType t y → Shape t y
shape_of t y i =
    let l = i.0 in
    let h = i.1 in
    ⊎_elim
    (λ (e : t.kind y ≡ 11). is_named e)
    (λ (n : t.kind y ≡ 11 → ⊥).
    ⊎_elim
    (λ (e : t.kind y ≡ 12). is_number e)
    (λ (m : t.kind y ≡ 12 → ⊥). is_quorum (omega (arith, n, m)))
    (eq-or-ne (t.kind y) 12))
    (eq-or-ne (t.kind y) 11)
