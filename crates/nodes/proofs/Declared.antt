-- A loop over the items and the fields of a contract, in the words of `Iterated`: the iterator stays in its part and keeps its end, and each turn goes on to the next of them.
use Prim.Native.Nat.{ℕ, ◌<◌, ◌≤◌}
use mathlib.Core.Path.{◌≡◌, refl, ◌∙◌}
use mathlib.Core.Bool.{true}
use mathlib.Core.List.{List, [], ◌∷◌}
use native.Mathlib.Omega.{arith}
use Rattle.rules.specs.Tree.{state, declarations}
use Rattle.rules.specs.Vocabulary.{Rec}
use Rattle.records.specs.Records.{Added}
use Rattle.nodes.specs.Shown.{View, In, tree_of}
use Rattle.nodes.specs.Walk.{onward}
use Rattle.nodes.specs.First.{Declaring}
use Rattle.nodes.specs.Chain.{Ended, Visited}
use Rattle.nodes.specs.declared.walk.Declarations.{Declarations}
use Rattle.nodes.proofs.Shapes.{all_in, one_in}
use Rattle.nodes.proofs.Walks.{Next, next_of, declarations-on, declaration-moves, none_of}
use Rattle.nodes.proofs.Steps.{Walk-by, at-kind, walk-on}

pub record Over (part : List ℕ) (to : ℕ) (s : Declarations) : Type 0 where
  pub nodes : s.nodes.now ≡ part
  pub last : s.to ≡ to

pub record Turn (part : List ℕ) (to : ℕ) (s : Declarations) (p : ℕ) (t : Declarations) : Type 0 where
  pub is : p ≡ s.at
  pub before : p < to
  pub here : In part 0 p
  pub moved : (W : View part 0) → t.at ≡ onward (tree_of W) state p
  pub still : Over part to t

-- a walk that was begun: it is what a `for` takes
module _ {part : List ℕ} {s s' : Declarations} (e : s' ≡ s) (g : (s.nodes.now ≡ part) × (s.at ≡ 1) × ((W : View part 0) → s.to ≡ (tree_of W).end 0)) where
  pub begun : Over part s'.to s'
  begun = rw e (record { nodes = g.0; last = refl })

  pub at-first : s'.at ≡ 1
  at-first = rw e g.1

  pub ends-at : (W : View part 0) → s'.to ≡ (tree_of W).end 0
  ends-at W = rw e (g.2 W)

pub turn : {part : List ℕ} {to p : ℕ} {s t : Declarations} → Over part to s → (t.nodes.now ≡ s.nodes.now) × (t.to ≡ s.to) × Visited s.nodes.now s.at s.to p t.at → Turn part to s p t
turn {part} {to} {p} {s} {t} o g =
    let v : Visited part s.at to p t.at = rw (← o.nodes, ← o.last) g.2 in
    record {
      is = v.is;
      before = let z = v.is in let h = v.before in omega arith;
      here = v.here;
      moved = v.moved;
      still = record { nodes = g.0 ∙ o.nodes; last = g.1 ∙ o.last };
    }

pub ended : {part : List ℕ} {to : ℕ} {s : Declarations} → Over part to s → Ended s.at s.to → to ≤ s.at
ended o g = let l = g.done in let e = o.last in omega arith

-- no item or field of kind k is passed over
pub goes-on : {part : List ℕ} {k to p : ℕ} {s t : Declarations} → Declaring k → 0 < p → Turn part to s p t → (W : View part 0) → Next W (k ∷ []) p t.at
goes-on d z g W = next_of _ declarations (one_in _ declarations d.1) (declarations-on W g.here z (g.moved W))

-- on to the next item or field of the contract, with what it adds: none is left out
pub declared-on : {X : Type 0} {nodes : List ℕ} {view : X → View nodes 0} {ks : List ℕ} {f : X → ℕ → List Rec} {e : X → ℕ → ℕ} {to most : ℕ} {o₀ o o' : List ℕ} {k₀ k k' p q : ℕ} → all_in ks declarations ≡ true → X → In nodes 0 0 → ((W : View nodes 0) → to ≡ (tree_of W).end 0)
    → Walk-by view ks f e 1 to most o₀ k₀ o k p → p < to → In nodes 0 p → ((W : View nodes 0) → q ≡ onward (tree_of W) state p) → Added e (λ x. at-kind view ks f x p) most o k o' k' → Walk-by view ks f e 1 to most o₀ k₀ o' k' q
declared-on {view = view} {ks = ks} al x i m w h j d n = walk-on w n (declaration-moves (view x) j w.sweep.low i (m (view x)) h (d (view x))) (λ y. none_of ks declarations al (declarations-on (view y) j w.sweep.low (d (view y))))
