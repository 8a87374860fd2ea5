-- Refusal 7 in the walk over the nodes (Stack): the ancestors of a node are the nodes on the stack.
use Prim.Native.Nat.{ℕ, zero, suc, ◌+◌, ◌-◌, ◌<◌, ◌≤◌}
use mathlib.Core.Path.{◌≡◌, refl, ap, ◌∙◌, sym}
use mathlib.Core.Bool.{Bool, true, false}
use mathlib.Core.List.{List}
use mathlib.Core.Logic.{⊎_elim}
use native.Mathlib.Numerals.{add-one}
use native.Mathlib.Omega.{arith}
use borrow.Author.Tests.{lt-ltb, le-ltb, le-leb, lt-leb}
use lib.Dec.{ltb, leb}
use lib.ListN.{length, get_or, set}
use lib.Seq.{get_or-set_same, get_or-set_other}
use Rattle.image.specs.Pick.{pick, both, every, count}
use Rattle.image.specs.Node.{end_of}
use Rattle.steps.specs.Steps.{larger}
use Rattle.image.specs.Tree.{ends_past, ancestors_of, shallow, depth_ok}
use Rattle.image.proofs.Decide.{lt-or-ge}
use Rattle.image.proofs.Every.{both_false}
use Rattle.admission.proofs.Stack.{Nested, nested-last}

one : Bool → ℕ
one b = pick b 1 0

count_next : (p : ℕ → Bool) (n : ℕ) → count p (n + 1) ≡ count p n + one (p n)
unfolding count one
count_next p n = rw add-one (go (p n))
  where
    go : (b : Bool) → pick b (count p n + 1) (count p n) ≡ count p n + pick b 1 0
    go true = refl
    go false = omega arith

every-next : (p : ℕ → Bool) (n : ℕ) → every p (n + 1) ≡ both (every p n) (p n)
unfolding every
every-next p n = rw add-one refl

-- how many of the nodes on the stack end past x
over : List ℕ → ℕ → ℕ → ℕ → ℕ
over es zero e x = one (ltb x e)
over es (suc d) e x = one (ltb x e) + over es d (get_or es d 0) x

over-set : (es : List ℕ) (k y d e x : ℕ) → d ≤ k → over (set es k y) d e x ≡ over es d e x
unfolding over
over-set es k y zero e x l = refl
over-set es k y (suc d) e x l = rw (get_or-set_other es k d y 0 (omega arith)) (ap (λ (r : ℕ). one (ltb x e) + r) (over-set es k y d (get_or es d 0) x (omega arith)))

over-push : (es : List ℕ) (d e to x : ℕ) → d < length es → over (set es d e) (d + 1) to x ≡ one (ltb x to) + over es d e x
unfolding over
over-push es d e to x l = rw (add-one, get_or-set_same es d e 0 l) (ap (λ (r : ℕ). one (ltb x to) + r) (over-set es d e d e x (omega arith)))

over-pop : (es : List ℕ) (d e x : ℕ) → 0 < d → over es d e x ≡ one (ltb x e) + over es (d - 1) (get_or es (d - 1) 0) x
unfolding over
over-pop es zero e x l = absurd (omega arith)
over-pop es (suc d) e x l = let z : suc d - 1 ≡ d = omega arith in rw z refl

over-all : (n : ℕ) (es : List ℕ) (d e x : ℕ) → Nested n es d e → x < e → over es d e x ≡ d + 1
unfolding over Nested one
over-all n es zero e x p h = rw (lt-ltb x e h) refl
over-all n es (suc d) e x p h = let l = p.0 in let ih = over-all n es d (get_or es d 0) x p.1 (omega arith) in rw (lt-ltb x e h) (omega arith)

none-past : (x e : ℕ) → e ≤ x → one (ltb x e) ≡ 0
unfolding one
none-past x e h = rw (le-ltb x e h) refl

-- both were below 64, by the larger of them
larger-below : (k d : ℕ) → both (ltb k 64) (leb (d + 1) 64) ≡ ltb (larger k d) 64
larger-below k d =
    ⊎_elim
    (λ (h : k < d). rw (lt-ltb k d h) (⊎_elim (λ (g : d < 64). simp (lt-ltb k 64 (omega arith), le-leb (d + 1) 64 (omega arith), lt-ltb d 64 g)) (λ (g : 64 ≤ d). simp (lt-leb (d + 1) 64 (omega arith), le-ltb d 64 g, both_false (ltb k 64))) (lt-or-ge d 64)))
    (λ (h : d ≤ k). rw (le-ltb k d h) (⊎_elim (λ (g : k < 64). simp (lt-ltb k 64 g, le-leb (d + 1) 64 (omega arith))) (λ (g : 64 ≤ k). simp (le-ltb k 64 g)) (lt-or-ge k 64)))
    (lt-or-ge k d)

-- after i nodes: how many of them end past a node further on, and whether the deepest of them has at most 64 ancestors
pub record Deep (nodes es : List ℕ) (d e i k : ℕ) : Type 0 where
  counts : (x : ℕ) → i ≤ x → count (ends_past nodes x) i ≡ over es d e x
  so_far : every (shallow nodes) i ≡ ltb k 64

module _ (nodes : List ℕ) (n : ℕ) where
  pub deep-starts : (es : List ℕ) → end_of nodes 0 ≡ n → Deep nodes es 0 n 1 0
  unfolding over count one every shallow ends_past
  deep-starts es w = record { counts = λ x l. ap (λ (e : ℕ). pick (ltb x e) 1 0) w; so_far = refl }

  module _ {es : List ℕ} {d e i k : ℕ} (D : Deep nodes es d e i k) where
    pub deep-pop : e ≡ i → 1 ≤ d → Deep nodes es (d - 1) (get_or es (d - 1) 0) i k
    deep-pop here l = record { counts = λ x h. let a = D.counts x h in let b = over-pop es d e x (omega arith) in let c = none-past x e (omega arith) in omega arith; so_far = D.so_far }

    pub deep-done : Nested n es d e → e ≡ i → d < 1 → depth_ok nodes n ≡ ltb k 64
    deep-done N here l = let z = nested-last n es d e (omega arith) N in ap (every (shallow nodes)) (sym (sym here ∙ z)) ∙ D.so_far

    module _ (N : Nested n es d e) (inside : i < e) (to : ℕ) (is : to ≡ end_of nodes i) where
      next-so-far : every (shallow nodes) (i + 1) ≡ ltb (larger k d) 64
      unfolding shallow
      next-so-far =
          let a : ancestors_of nodes i ≡ d + 1 = D.counts i (omega arith) ∙ over-all n es d e i N inside in
          every-next (shallow nodes) i ∙ ap (λ (b : Bool). both b (leb (ancestors_of nodes i) 64)) D.so_far ∙ ap (λ (x : ℕ). both (ltb k 64) (leb x 64)) a ∙ larger-below k d

      next-counts : (x : ℕ) → i ≤ x → count (ends_past nodes x) (i + 1) ≡ over es d e x + one (ltb x to)
      unfolding ends_past
      next-counts x h = count_next (ends_past nodes x) i ∙ ap (λ (r : ℕ). r + one (ltb x (end_of nodes i))) (D.counts x h) ∙ ap (λ (y : ℕ). over es d e x + one (ltb x y)) (sym is)

      pub deep-leaf : to ≤ i + 1 → Deep nodes es d e (i + 1) (larger k d)
      deep-leaf z = record { counts = λ x h. let a = next-counts x (omega arith) in let c = none-past x to (omega arith) in omega arith; so_far = next-so-far }

      pub deep-push : d < length es → Deep nodes (set es d e) (d + 1) to (i + 1) (larger k d)
      deep-push l = record { counts = λ x h. let a = next-counts x (omega arith) in let b = over-push es d e to x l in omega arith; so_far = next-so-far }
