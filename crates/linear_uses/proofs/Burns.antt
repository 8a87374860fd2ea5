-- The burn mark of a parameter: which it is, and what it adds to the tallies.
use Prim.Native.Nat.{ℕ, ◌+◌, ◌<◌}
use mathlib.Core.Path.{◌≡◌, refl, ap, ◌∙◌, sym, subst}
use mathlib.Core.Bool.{Bool, true, false, true≢false}
use mathlib.Core.List.{List, [], ◌++◌, append-nil}
use Rattle.rules.specs.Sweep.{keep}
use Rattle.rules.specs.Tree.{Tree, burns}
use Rattle.rules.specs.Linear.{is_burned}
use Rattle.rules.specs.Model.{inner}
use Rattle.rules.proofs.Reflect.{Tells, tells_as, tells-same, tells-named, tells-some_below, one-fact}
use Rattle.records.proofs.Sweep.{has_one, has-not, keep-none, keep_one}
use Rattle.nodes.specs.Shown.{View, tree_of}
use Rattle.nodes.specs.Marks.{Turned}
use Rattle.nodes.proofs.Fall.{not_so}
use Rattle.nodes.proofs.Turns.{set-fresh}
use Rattle.model.specs.Assets.{Assets, Inside}
use Rattle.model.proofs.Inner.{inner-none, inner-one}
use Rattle.linear_parts.proofs.Lists.{tells-self}
use Rattle.linear_rows.specs.Tallies.{Tallied}
use Rattle.linear_rows.proofs.Tallied.{tallied-as}
use Rattle.linear_uses.specs.Uses.{on_row, burn_at, burned_in, Burning, Unburned}

-- the numbers that the names inside types are found by
abbrev pub assets-of : {nodes : List ℕ} {e asset : ℕ} {burned : List Bool} {rows : List ℕ} → Burning nodes e asset burned rows → Assets nodes asset
assets-of T = record { view = T.on_rows.view; numbered = T.asset_number }

-- the names of the Burns clauses marked where none was
abbrev pub burning-of : {nodes : List ℕ} (e : ℕ) {asset : ℕ} {burned burned' : List Bool} {rows : List ℕ} → Turned true (λ (W : View nodes 0). W.image) (λ W. burned_in (tree_of W) e) burned burned' → Unburned nodes asset burned rows → Burning nodes e asset burned' rows
burning-of e G T = record { on_rows = T.on_rows; asset_number = T.asset_number; burned_marks = set-fresh (G T.on_rows.view (λ w. false) T.clean) }

-- a parameter y, whose Type is y + 2: no name is inside it, or that of node r
module _ {nodes : List ℕ} {asset r : ℕ} (A : Assets nodes asset) (e y : ℕ) (k : (tree_of A.view).kind (y + 2) ≡ 11) (I : Inside A (y + 2) r) where
  pub burned_none : r ≡ 0 → is_burned (tree_of A.view) e y ≡ false
  unfolding is_burned
  burned_none z =
      not_so _ (λ b. let f = (tells-some_below (tree_of A.view) burns e (λ c. tells-self (inner (tree_of A.view) ((tree_of A.view).text (c + 1)) (y + 2)))).so b in true≢false (sym f.2 ∙ inner-none A k I _ z))

  pub burned-one : 0 < r → is_burned (tree_of A.view) e y ≡ burned_in (tree_of A.view) e ((tree_of A.view).text r)
  unfolding is_burned
  burned-one l = one-fact (tells-some_below (tree_of A.view) burns e tells-inside) (tells-some_below (tree_of A.view) burns e (tells-named (tree_of A.view) ((tree_of A.view).text r)))
    where
      tells-inside : (c : ℕ) → Tells (inner (tree_of A.view) ((tree_of A.view).text (c + 1)) (y + 2)) ((tree_of A.view).text (c + 1) ≡ (tree_of A.view).text r)
      tells-inside c =
          subst (λ (b : Bool). Tells b ((tree_of A.view).text (c + 1) ≡ (tree_of A.view).text r)) (sym (inner-one A k I ((tree_of A.view).text (c + 1)) l))
          (tells_as sym sym (tells-same ((tree_of A.view).text r) ((tree_of A.view).text (c + 1))))

-- what node y adds to the marks
burn-here : (t : Tree) (e : ℕ) (F : List ℕ → ℕ) (r y : ℕ) → t.kind y ≡ 10 → burn_at t e F r y ≡ keep (is_burned t e y) (on_row F r (t.text (y + 1))) y
burn-here t e F r y k = keep_one _ y (has_one (t.kind y) 10 k)

module _ (t : Tree) (e : ℕ) (F : List ℕ → ℕ) (y : ℕ) (M : ℕ → List ℕ) {s : List ℕ} where
  nothing : ((r : ℕ) → burn_at t e F r y ≡ []) → Tallied M (λ r. []) s → Tallied (λ r. M r ++ burn_at t e F r y) (λ r. []) s
  nothing z T = tallied-as (λ r. sym (ap (λ (m : List ℕ). M r ++ m) (z r) ∙ append-nil (M r))) (λ r. refl) T

  pub burn-other : (t.kind y ≡ 10 → ⊥) → Tallied M (λ r. []) s → Tallied (λ r. M r ++ burn_at t e F r y) (λ r. []) s
  burn-other n = nothing (λ r. keep-none _ y (has-not (t.kind y) 10 n))

  pub burn-not : t.kind y ≡ 10 → is_burned t e y ≡ false → Tallied M (λ r. []) s → Tallied (λ r. M r ++ burn_at t e F r y) (λ r. []) s
  burn-not k b = nothing (λ r. burn-here t e F r y k ∙ keep-none _ y b)

  pub burn-so : t.kind y ≡ 10 → is_burned t e y ≡ true → Tallied (λ r. M r ++ on_row F r (t.text (y + 1)) y) (λ r. []) s → Tallied (λ r. M r ++ burn_at t e F r y) (λ r. []) s
  burn-so k b T = tallied-as (λ r. sym (ap (λ (m : List ℕ). M r ++ m) (burn-here t e F r y k ∙ keep_one _ y b))) (λ r. refl) T
