-- What a rule about a name is lent: a node among those of a kind, with the first of each name. A field or an event stands in no entry.
use Prim.Native.Nat.{ℕ, ◌+◌, ◌<◌}
use mathlib.Core.Path.{◌≡◌, refl, ◌∙◌, sym, subst}
use mathlib.Core.Logic.{◌⊎◌, ⊎_elim}
use native.Mathlib.Omega.{arith}
use mathlib.Core.List.{List, [], ◌∷◌}
use lib.ListN.{replicate}
use Rattle.rules.specs.All.{entry_of}
use Rattle.records.proofs.Sweep.{keep-or}
use Rattle.nodes.specs.Shown.{View, In, tree_of}
use Rattle.nodes.specs.First.{NameFirst}
use Rattle.nodes.proofs.Shapes.{name-inside}
use Rattle.nodes.proofs.Entries.{none-holds}
use Rattle.places.specs.declared.Note.TheVariants.{First}
use Rattle.places.specs.Places.{Noted, notes_below}
use Rattle.places.proofs.Noting.{places-none}
use Rattle.resolve_names.specs.Seen.{Among, at_met}

-- a table that noted nothing notes the first of each name among the nodes of kind ks below a
abbrev pub Firsts : List ℕ → List ℕ → ℕ → List ℕ → List ℕ → Type 0
Firsts nodes ks a r₀ r = Noted (λ (W : View nodes 0). W.image) (λ W. notes_below First (tree_of W) ks a) r₀ r

-- node p of the contract
abbrev pub among-all : {nodes firsts : List ℕ} {kind p : ℕ} (W : View nodes 0) → Firsts nodes (kind ∷ []) 0 (replicate 1024 0) firsts → 0 < p → p < (tree_of W).end 0 → Among nodes 0 kind p firsts
among-all W f l h = record { view = W; holder = 0; after = l; inside = h; are_first = f W (λ w. 0) (places-none W.image W.shown.admitted) }

-- a field or an event, or nothing is said of it
pub no-entry : {nodes : List ℕ} (kind code p : ℕ) (W : View nodes 0) → In nodes 0 p → 0 < p → NameFirst kind → (kind ≡ 4) ⊎ (kind ≡ 5) → (at_met code (kind ∷ []) 1 p (tree_of W) 0 ≡ []) ⊎ (entry_of (tree_of W) (p + 1) ≡ 0)
no-entry kind code p W i z f o =
    keep-or kind _ p
    (λ m.
    let n = name-inside W i (subst NameFirst (sym m) f) in
    ⊎_elim (λ h. none-holds W i z 4 refl refl (m ∙ h) (p + 1) (omega arith) n) (λ h. none-holds W i z 5 refl refl (m ∙ h) (p + 1) (omega arith) n) o)
