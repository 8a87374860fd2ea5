-- A loop that changes a table by a walk over the nodes of some kinds below a node: what the walk leaves out has none of these kinds.
use Prim.Native.Nat.{ℕ, ◌+◌, ◌<◌, ◌≤◌}
use mathlib.Core.Path.{◌≡◌, refl, ap}
use mathlib.Core.Bool.{Bool, false}
use mathlib.Core.List.{List}
use native.Mathlib.Omega.{arith}
use Rattle.rules.specs.Sweep.{also, has}
use Rattle.rules.specs.Vocabulary.{some_below}
use Rattle.nodes.specs.Shown.{View, In, tree_of}
use Rattle.nodes.specs.Table.{Changed}
use Rattle.nodes.specs.Marks.{marking, Turned}
use Rattle.nodes.proofs.Spans.{Span, span_below}
use Rattle.nodes.proofs.Folding.{Folding, folding-starts, folding-on}
use Rattle.nodes.proofs.Marking.{marking-none, marking-done, marks-below}
use Rattle.nodes.proofs.Walks.{Next}

-- whichever x the nodes are seen by, each node of kind ks from a on up to p has made its change to the marks of the words that G finds there
module _ {A B : Type 0} (d : A) (step : B → A → Bool → ℕ → A) (b : B) {X : Type 0} {part : List ℕ} {base : ℕ} (view : X → View part base) (ks : List ℕ) (G : X → List ℕ → ℕ → Bool) where
  abbrev pub at-kind : X → List ℕ → ℕ → Bool
  at-kind x w i = also (has ((tree_of (view x)).kind i) ks) (G x w) i

  pub record Walked (a to : ℕ) (r₀ r : List A) (p : ℕ) : Type 0 where
    pub span : Span part base (a + 1) to
    pub fold : Folding d step b (λ x. (view x).image) at-kind (a + 1) to r₀ r p

module _ {A B : Type 0} {d : A} {step : B → A → Bool → ℕ → A} {b : B} {X : Type 0} {part : List ℕ} {base : ℕ} {view : X → View part base} {ks : List ℕ} {G : X → List ℕ → ℕ → Bool} where
  module _ {a to : ℕ} (x : X) (i : In part base a) (e : (W : View part base) → to ≡ (tree_of W).end a) where
    pub walk-starts : {r : List A} → ((v : A) (i : ℕ) → step b v false i ≡ v) → Walked d step b view ks G a to r r (a + 1)
    walk-starts k = let S = span_below (view x) i (e (view x)) in record { span = S; fold = folding-starts k S.order }

    module _ {r₀ r : List A} {p q : ℕ} (m : Walked d step b view ks G a to r₀ r p) (l : p < to) (N : (y : X) → Next (view y) ks p q) where
      pub walk-moves : (p < q) × (q ≤ to)
      walk-moves = let d = e (view x) in let g = m.fold.low in let h = (N x).within i (omega arith) (omega arith) in ((N x).after, omega arith)

      pub walk-on : {r' : List A} → Changed d (λ x. (view x).image) (λ x w v. step b v (at-kind d step b view ks G x w p) p) r r' → Walked d step b view ks G a to r₀ r' q
      walk-on f = record { span = m.span; fold = folding-on m.fold f walk-moves.0 walk-moves.1 (λ y w j g c. ap (λ (b : Bool). also b (G y w) j) ((N y).none j g c)) }

-- a walk that marks has marked what stands below its node
abbrev pub Walking : Bool → {X : Type 0} {part : List ℕ} {base : ℕ} → (X → View part base) → List ℕ → (X → List ℕ → ℕ → Bool) → ℕ → ℕ → List Bool → List Bool → ℕ → Type 0
Walking on view ks G a to r₀ r p = Walked false (λ on v b i. marking on v b) on view ks G a to r₀ r p

module _ {on : Bool} {X : Type 0} {part : List ℕ} {base : ℕ} {view : X → View part base} {ks : List ℕ} {G : X → List ℕ → ℕ → Bool} {a to : ℕ} (e : (W : View part base) → to ≡ (tree_of W).end a) where
  pub marks-start : {r : List Bool} → X → In part base a → Walking on view ks G a to r r (a + 1)
  marks-start x i = walk-starts x i e (λ v i. marking-none on v)

  pub marks-done : {r₀ r : List Bool} {p : ℕ} → Walking on view ks G a to r₀ r p → to ≤ p → Turned on (λ y. (view y).image) (λ y w. some_below (tree_of (view y)) ks a (G y w)) r₀ r
  marks-done m l y P M = marks-below on (view y).image P (tree_of (view y)) (G y) ks a (a + 1) to refl (e (view y)) (marking-done m.fold l y P M)
