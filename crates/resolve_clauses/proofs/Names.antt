-- 33 at an Assign; 36 to 39 in a clause of each kind.
use Prim.Native.Nat.{ℕ, suc, ◌+◌, ◌-◌, ◌<◌, ◌≤◌}
use mathlib.Core.Path.{◌≡◌, refl, ap, ◌∙◌, sym}
use mathlib.Core.Bool.{Bool, true, false, not}
use mathlib.Core.List.{List, append-nil}
use mathlib.Core.Logic.{⊎_elim}
use native.Mathlib.Nat.{eq-or-lt_of_le}
use native.Mathlib.Omega.{arith}
use borrow.Author.Tests.{eq-eqb, ne_eqb, lt-ltb, le-ltb}
use Rattle.rules.specs.Sweep.{keep, has}
use Rattle.rules.specs.Tree.{Tree, fields, name, naming}
use Rattle.rules.specs.Vocabulary.{Rec, rec, only, below, down, at_bottom}
use Rattle.rules.specs.Model.{is_state, is_declared_asset, is_known_asset}
use Rattle.rules.specs.Resolve.{rule33, clause_rule}
use Rattle.records.proofs.Sweep.{run-same, keep_one, keep-none, has_one, has-not}
use Rattle.nodes.specs.Shown.{tree_of}
use Rattle.resolve_clauses.specs.Said.{OneTable, AssetMarks, at33, unmarked, clause_rules, clause36}

module _ (t : Tree) (p : ℕ) where
  pub other-33 : (t.kind p ≡ 27 → ⊥) → at33 p t ≡ only false (rec 33 p 0)
  unfolding only
  other-33 n = keep-none (rule33 t) p (has-not (t.kind p) 27 n)

  module _ (k : t.kind p ≡ 27) {r : ℕ} (d : r ≡ down t fields (p + 1)) where
    pub over-33 : t.end (p + 1) ≤ r → at33 p t ≡ only false (rec 33 p 0)
    unfolding rule33 at_bottom
    over-33 h = keep_one (rule33 t) p (has_one (t.kind p) 27 k) ∙ rw (sym d) (simp (le-ltb r (t.end (p + 1)) h))

    module _ (l : r < t.end (p + 1)) where
      pub no-ident-33 : (t.kind r ≡ 35 → ⊥) → at33 p t ≡ only false (rec 33 p 0)
      unfolding rule33 at_bottom
      no-ident-33 n = keep_one (rule33 t) p (has_one (t.kind p) 27 k) ∙ rw (sym d) (simp (lt-ltb r (t.end (p + 1)) l, ne_eqb (t.kind r) 35 n))

      pub ident-33 : {b : Bool} → t.kind r ≡ 35 → b ≡ is_state t (t.text r) → at33 p t ≡ only (not b) (rec 33 p 0)
      unfolding rule33 at_bottom
      ident-33 i e = rw e (keep_one (rule33 t) p (has_one (t.kind p) 27 k) ∙ rw (sym d) (simp (lt-ltb r (t.end (p + 1)) l, eq-eqb (t.kind r) 35 i)))

below-same : (t : Tree) (ks : List ℕ) (a : ℕ) (f g : ℕ → List Rec) → ((p : ℕ) → f p ≡ g p) → below t ks a f ≡ below t ks a g
unfolding below keep
below-same t ks a f g h = run-same _ _ (suc a) (t.end a - suc a) (λ i l j. at (has (t.kind i) ks) i)
  where
    at : (b : Bool) (i : ℕ) → keep b f i ≡ keep b g i
    at true i = h i
    at false i = refl

module _ (t : Tree) (c : ℕ) where
  one : (k code : ℕ) (P : List ℕ → Bool) → t.kind c ≡ k → has k naming ≡ true → ((p : ℕ) → clause_rule t k p ≡ unmarked t P code p) → below t name c (unmarked t P code) ≡ clause36 t c
  one k code P e y h =
      sym (below-same t name c (clause_rule t k) (unmarked t P code) h) ∙ ap (λ (x : ℕ). below t name c (clause_rule t x)) (sym e)
      ∙ sym (keep_one (clause_rules t) c (ap (λ (x : ℕ). has x naming) e ∙ y))

  writes-36 : t.kind c ≡ 14 → below t name c (unmarked t (is_state t) 36) ≡ clause36 t c
  unfolding clause_rule has only
  writes-36 e = one 14 36 (is_state t) e refl (λ p. append-nil (unmarked t (is_state t) 36 p))

  reads-36 : t.kind c ≡ 15 → below t name c (unmarked t (is_state t) 36) ≡ clause36 t c
  unfolding clause_rule has only
  reads-36 e = one 15 36 (is_state t) e refl (λ p. append-nil (unmarked t (is_state t) 36 p))

  pub state-36 : 14 ≤ t.kind c → t.kind c ≤ 15 → below t name c (unmarked t (is_state t) 36) ≡ clause36 t c
  state-36 l h = ⊎_elim (λ (e : 14 ≡ t.kind c). writes-36 (sym e)) (λ (e : 14 < t.kind c). reads-36 (omega arith)) (eq-or-lt_of_le l)

  pub conserves-37 : t.kind c ≡ 16 → below t name c (unmarked t (is_known_asset t) 37) ≡ clause36 t c
  unfolding clause_rule has only
  conserves-37 e = one 16 37 (is_known_asset t) e refl (λ p. append-nil (unmarked t (is_known_asset t) 37 p))

  pub mints-38 : t.kind c ≡ 17 → below t name c (unmarked t (is_declared_asset t) 38) ≡ clause36 t c
  unfolding clause_rule has only
  mints-38 e = one 17 38 (is_declared_asset t) e refl (λ p. append-nil (unmarked t (is_declared_asset t) 38 p))

  pub burns-39 : t.kind c ≡ 18 → below t name c (unmarked t (is_declared_asset t) 39) ≡ clause36 t c
  unfolding clause_rule has only
  burns-39 e = one 18 39 (is_declared_asset t) e refl (λ p. refl)

  pub other-36 : (t.kind c ≡ 14 → ⊥) → (t.kind c ≡ 15 → ⊥) → (t.kind c ≡ 16 → ⊥) → (t.kind c ≡ 17 → ⊥) → (t.kind c ≡ 18 → ⊥) → has (t.kind c) naming ≡ false
  unfolding has
  other-36 u v x y z = simp (ne_eqb (t.kind c) 14 u, ne_eqb (t.kind c) 15 v, ne_eqb (t.kind c) 16 x, ne_eqb (t.kind c) 17 y, ne_eqb (t.kind c) 18 z)

-- one of the tables
module _ {nodes : List ℕ} {state declared known : List Bool} (T : AssetMarks nodes state declared known) where
  abbrev pub by_state : OneTable nodes 0 state
  by_state = record { view = T.view; says = is_state (tree_of T.view); tells = T.state_marks }

  abbrev pub by-declared : OneTable nodes 0 declared
  by-declared = record { view = T.view; says = is_declared_asset (tree_of T.view); tells = T.declared_marks }

  abbrev pub by-known : OneTable nodes 0 known
  by-known = record { view = T.view; says = is_known_asset (tree_of T.view); tells = T.known_marks }
