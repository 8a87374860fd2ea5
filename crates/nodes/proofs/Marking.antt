-- A loop that sets marks, or takes them off: after the nodes from `from` up to p, that was done for the names that the test G finds there.
use Prim.Native.Nat.{ℕ, zero, suc, ◌+◌, ◌-◌, ◌<◌, ◌≤◌}
use mathlib.Core.Path.{◌≡◌, refl, ap, ◌∙◌, sym}
use mathlib.Core.Bool.{Bool, true, false}
use mathlib.Core.List.{List}
use native.Mathlib.Omega.{arith}
use Rattle.rules.specs.Sweep.{either, some, also, has}
use Rattle.rules.specs.Tree.{Tree}
use Rattle.rules.specs.Vocabulary.{some_below}
use Rattle.nodes.specs.Table.{folded}
use Rattle.nodes.specs.Marks.{Marks, marking, Turned}
use Rattle.nodes.proofs.Names.{marks-as}
pub use Rattle.nodes.proofs.Names.{marking-none}
use Rattle.nodes.proofs.Folding.{folded_on, Folding, folding-starts, folding-done}
pub use Rattle.nodes.proofs.Folding.{folding-on as marking-on, folding-again as marking-again}

-- one test after another
marking-twice : (on a b c : Bool) → marking on (marking on a b) c ≡ marking on a (either b c)
unfolding marking
marking-twice true true b c = refl
marking-twice true false b c = refl
marking-twice false true true c = refl
marking-twice false true false c = refl
marking-twice false false b c = refl

-- node after node is marked as by one test that some node passes
marking-some : (on : Bool) (p : ℕ → Bool) (v : Bool) (a n : ℕ) → folded (λ i u. marking on u (p i)) v a n ≡ marking on v (some p a n)
unfolding folded some
marking-some on p v a zero = sym (marking-none on v)
marking-some on p v a (suc n) = ap (λ (u : Bool). marking on u (p (a + n))) (marking-some on p v a n) ∙ marking-twice on v (some p a n) (p (a + n))

pub some-on : (p : ℕ → Bool) (a i q : ℕ) → a ≤ i → i < q → ((j : ℕ) → i < j → j < q → p j ≡ false) → some p a (q - a) ≡ either (some p a (i - a)) (p i)
unfolding marking
some-on p a i q l h z =
    let f : ℕ → Bool → Bool = λ j u. marking true u (p j) in
    sym (marking-some true p false a (q - a)) ∙ folded_on f false a i q l h (λ j g k u. ap (marking true u) (z j g k) ∙ marking-none true u) ∙ ap (f i) (marking-some true p false a (i - a))

-- The invariant of every loop that marks: the nodes from `from` up to p have been asked, whichever x the nodes are seen by, with the image of x.
abbrev pub Marking : Bool → {X : Type 0} → (X → List ℕ) → (X → List ℕ → ℕ → Bool) → ℕ → ℕ → List Bool → List Bool → ℕ → Type 0
Marking on image G from to r₀ r p = Folding false (λ on v b i. marking on v b) on image G from to r₀ r p

module _ {on : Bool} {X : Type 0} {image : X → List ℕ} {G : X → List ℕ → ℕ → Bool} {from to : ℕ} {r₀ : List Bool} where
  pub marking-starts : from ≤ to → Marking on image G from to r₀ r₀ from
  marking-starts = folding-starts (λ v i. marking-none on v)

  pub marking-done : {r : List Bool} {p : ℕ} → Marking on image G from to r₀ r p → to ≤ p → Turned on image (λ x w. some (G x w) from (to - from)) r₀ r
  marking-done m h x P M = marks-as (λ w. marking-some on (G x w) (P w) from (to - from)) (folding-done m h x P M)

-- a marking sweep over a range is what stands below its node
pub marks-below : (on : Bool) (s : List ℕ) (P : List ℕ → Bool) {r : List Bool} (t : Tree) (G : List ℕ → ℕ → Bool) (ks : List ℕ) (a from to : ℕ) → from ≡ a + 1 → to ≡ t.end a
    → Marks s (λ w. marking on (P w) (some (λ i. also (has (t.kind i) ks) (G w) i) from (to - from))) r → Marks s (λ w. marking on (P w) (some_below t ks a (G w))) r
unfolding some_below
marks-below on s P t G ks a from to d e M = let z : from ≡ suc a = omega arith in rw (e, z) at M
