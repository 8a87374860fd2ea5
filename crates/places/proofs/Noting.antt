-- A table of nodes, name by name; and a loop that notes: after the nodes from `from` up to p, those of them that pass the test G were noted.
use Prim.Native.Nat.{ℕ, suc, ◌+◌, ◌-◌, ◌≤◌}
use mathlib.Core.Path.{◌≡◌, refl, ap, sym}
use mathlib.Core.Bool.{Bool}
use mathlib.Core.List.{List, [], ◌∷◌}
use native.Mathlib.Omega.{arith}
use lib.ListN.{get_or, set}
use Rattle.rules.specs.Sweep.{also}
use Rattle.rules.specs.Vocabulary.{named}
use Rattle.nodes.specs.Shown.{View, Worded, tree_of, number}
use Rattle.nodes.proofs.Names.{marks-as, marks-put}
pub use Rattle.nodes.proofs.Names.{marks-none as places-none}
use Rattle.nodes.proofs.Parts.{ranged}
use Rattle.nodes.proofs.Turns.{carries-in}
use Rattle.nodes.proofs.Folding.{folding-done}
use Rattle.nodes.proofs.Walking.{Walked}
use Rattle.records.proofs.Sweep.{has_one, has-not}
use Rattle.places.specs.declared.Note.{Note}
use Rattle.places.specs.Places.{Places, Noted, taken, noting, notes, notes_below, is_named}

-- one node: the test of its kind, and its Name
module _ {part : List ℕ} {b : ℕ} (W : View part b) (note : Note) (p : ℕ) {k : ℕ} {F : List ℕ → ℕ} {r : List ℕ} (N : Places W.image F r) where
  pub note-other : ((tree_of W).kind p ≡ k → ⊥) → Places W.image (λ w. noting note (F w) (is_named (tree_of W) (k ∷ []) w p) p) r
  note-other n = marks-as (λ w. sym (ap (λ (x : Bool). noting note (F w) (also x (named (tree_of W) w) p) p) (has-not _ k n))) N

  pub note-name : (D : Worded part b (p + 1)) → (tree_of W).kind p ≡ k → {x v : ℕ} → x ≡ number W.image (p + 1) → v ≡ taken note (get_or r (x - 1) 0) p
      → Places W.image (λ w. noting note (F w) (is_named (tree_of W) (k ∷ []) w p) p) (set r (x - 1) v)
  unfolding named
  note-name D e d f =
      let g = ranged W D.here (carries-in W D) in
      rw (f, d)
      (marks-as (λ w. sym (ap (λ (y : Bool). noting note (F w) (also y (named (tree_of W) w) p) p) (has_one _ k e)))
      (marks-put (λ v y. noting note v y p) W.image F r (number W.image (p + 1)) _ (ap (λ (v : ℕ). taken note v p) (N.mark _ g.0 g.1)) (λ v. refl) W.shown.admitted g.0 g.1 N))

-- The loop

-- The invariant of every loop that notes: the nodes of kind ks below a, up to p, have been noted for their Names.
abbrev pub Noting : Note → {X : Type 0} {part : List ℕ} {base : ℕ} → (X → View part base) → List ℕ → ℕ → ℕ → List ℕ → List ℕ → ℕ → Type 0
Noting note view ks a to r₀ r p = Walked 0 noting note view ks (λ x. named (tree_of (view x))) a to r₀ r p

-- a loop over the range of a node has noted what stands below it
pub noted-below : {note : Note} {X : Type 0} {part : List ℕ} {base : ℕ} {view : X → View part base} {ks : List ℕ} {a to p : ℕ} {r₀ r : List ℕ} → ((W : View part base) → to ≡ (tree_of W).end a) → Noting note view ks a to r₀ r p → to ≤ p
    → Noted (λ x. (view x).image) (λ x. notes_below note (tree_of (view x)) ks a) r₀ r
unfolding notes_below notes
noted-below {view = view} {a = a} e m h x F N = let z : a + 1 ≡ suc a = omega arith in rw (z, e (view x)) at (folding-done m.fold h x F N)
