-- The mark of a parameter: which clause gives it, and whether it is one of the row's; and those that a walk over the head of an entry tells.
use Prim.Native.Nat.{ℕ, suc, ◌+◌, ◌-◌, ◌<◌}
use mathlib.Core.Path.{◌≡◌, refl, ap, ◌∙◌, sym}
use mathlib.Core.Bool.{Bool, true, false}
use mathlib.Core.List.{List, []}
use mathlib.Core.Logic.{⊎_elim}
use native.Mathlib.Omega.{arith}
use borrow.Author.Tests.{eq-eqb, ne_eqb}
use Rattle.image.specs.Pick.{pick}
use Rattle.image.proofs.Decide.{eq-or-ne}
use Rattle.rules.specs.Sweep.{run, keep}
use Rattle.rules.specs.Tree.{Tree, burns}
use Rattle.rules.specs.Vocabulary.{alone, below, IsFirst, Named}
use Rattle.rules.specs.Linear.{GivesMark, is_burned}
use Rattle.rules.proofs.Reflect.{tells-same}
use Rattle.rules.proofs.Model.{tells-inner}
use Rattle.rules.proofs.Linear.{tells-is_burned}
use Rattle.records.proofs.Sweep.{run-sooner, has_one, has-not, keep-none, keep_one}
use Rattle.nodes.specs.Shown.{tree_of}
use Rattle.nodes.specs.First.{Until}
use Rattle.nodes.proofs.Fall.{not_so}
use Rattle.nodes.proofs.Parts.{past, few}
use Rattle.nodes.proofs.Until.{one_end, until-rest}
use Rattle.places.specs.Places.{first_of}
use Rattle.places.proofs.Reading.{first-is, first_absent}
use Rattle.model.specs.Assets.{Assets, Inside}
use Rattle.model.proofs.Inner.{inner-one}
use Rattle.linear_uses.specs.Uses.{on_row, burn_at, burns_on}
use Rattle.linear_uses.proofs.Burns.{burned_none}
use Rattle.reasons.specs.Compute.{clause_of, clause_words, each}
use Rattle.reasons.proofs.Reasons.{clause-first, one-first}
use Rattle.lot_words.specs.Told.{Clauses, Marking}
use Rattle.lot_words.proofs.Words.{each-run, each_none, each-one}

-- the numbers that the names inside types are found by
abbrev pub assets-of : {nodes : List ℕ} {e asset : ℕ} {clauses : List ℕ} → Clauses nodes e asset clauses → Assets nodes asset
assets-of T = record { view = T.view; numbered = T.asset_number }

-- the clause of the parameter y, or 0
abbrev pub clause_or : Tree → ℕ → ℕ → ℕ
clause_or t e y = pick (is_burned t e y) (clause_of t e y) 0

module _ (t : Tree) (e y : ℕ) where
  unburned : is_burned t e y ≡ false → clause_or t e y ≡ 0
  unburned b = ap (λ (c : Bool). pick c (clause_of t e y) 0) b

  its_clause : is_burned t e y ≡ true → IsFirst (GivesMark t e y) (clause_of t e y)
  its_clause b = let c = (tells-is_burned t e y).so b in clause-first t e y c.0 c.1

  -- 0 says that it is not burned, and any other number is the clause
  pub clause-told : {r : ℕ} → r ≡ clause_or t e y → (r ≡ 0 → is_burned t e y ≡ false) × ((r ≡ 0 → ⊥) → (is_burned t e y ≡ true) × (r ≡ clause_of t e y))
  clause-told {r} d = go (is_burned t e y) refl d
    where
      go : (b : Bool) → is_burned t e y ≡ b → r ≡ pick b (clause_of t e y) 0 → (r ≡ 0 → b ≡ false) × ((r ≡ 0 → ⊥) → (b ≡ true) × (r ≡ clause_of t e y))
      go true q d = (λ z. let a = (its_clause q).is.0.after in absurd (omega arith), λ n. (refl, d))
      go false q d = (λ z. refl, λ n. absurd (n d))

-- found by the name inside the parameter's Type, which is y + 2
module _ {nodes : List ℕ} {e asset r : ℕ} {clauses : List ℕ} (T : Clauses nodes e asset clauses) (y : ℕ) (k : (tree_of T.view).kind (y + 2) ≡ 11) (I : Inside (assets-of T) (y + 2) r) where
  abbrev t : Tree
  t = tree_of T.view

  pub no-clause : r ≡ 0 → 0 ≡ clause_or t e y
  no-clause z = sym (unburned t e y (burned_none (assets-of T) e y k I z))

  module _ (l : 0 < r) where
    named-gives : (c : ℕ) → Named t burns e (t.text r) c → GivesMark t e y c
    named-gives c N = (N.0, (tells-inner t (t.text (c + 1)) (y + 2)).so (inner-one (assets-of T) k I (t.text (c + 1)) l ∙ (tells-same (t.text r) (t.text (c + 1))).back (sym N.1)))

    gives-named : (c : ℕ) → GivesMark t e y c → Named t burns e (t.text r) c
    gives-named c G = (G.0, sym ((tells-same (t.text r) (t.text (c + 1))).so (sym (inner-one (assets-of T) k I (t.text (c + 1)) l) ∙ (tells-inner t (t.text (c + 1)) (y + 2)).back G.1)))

    pub clause-is : first_of t burns e (t.text r) ≡ clause_or t e y
    clause-is =
        ⊎_elim
        (λ (z : first_of t burns e (t.text r) ≡ 0). z ∙ sym (unburned t e y (not_so _ (λ b. let c = (tells-is_burned t e y).so b in first_absent t burns e (t.text r) z c.0 (gives-named c.0 c.1)))))
        (λ (n : first_of t burns e (t.text r) ≡ 0 → ⊥).
        let F = first-is t burns e (t.text r) (omega (arith, n)) in
        let G : IsFirst (GivesMark t e y) (first_of t burns e (t.text r)) = record { is = named-gives _ F.is; none = λ j h g. F.none j h (gives-named j g) } in
        let b = (tells-is_burned t e y).back (_, G.is) in
        one-first t e y _ _ G (its_clause t e y b) ∙ ap (λ (c : Bool). pick c (clause_of t e y) 0) (sym b))
        (eq-or-ne (first_of t burns e (t.text r)) 0)

    pub clause-few : first_of t burns e (t.text r) < 2048
    clause-few =
        ⊎_elim (λ (z : first_of t burns e (t.text r) ≡ 0). omega arith)
        (λ (n : first_of t burns e (t.text r) ≡ 0 → ⊥).
        let F = first-is t burns e (t.text r) (omega (arith, n)) in
        let i = F.is.0.inside in
        let p = (past T.view T.here).1 in
        let u = (few T.view).0 in
        omega arith)
        (eq-or-ne (first_of t burns e (t.text r)) 0)

-- what a node adds
module _ (t : Tree) (e : ℕ) (F : List ℕ → ℕ) (row y : ℕ) where
  pub mark-other : (t.kind y ≡ 10 → ⊥) → each (clause_words t e) (burn_at t e F (row - 1) y) ≡ []
  mark-other n = each_none (clause_words t e) (keep-none _ y (has-not (t.kind y) 10 n))

  module _ (k : t.kind y ≡ 10) where
    burn-here : burn_at t e F (row - 1) y ≡ keep (is_burned t e y) (on_row F (row - 1) (t.text (y + 1))) y
    burn-here = keep_one _ y (has_one (t.kind y) 10 k)

    pub mark-elsewhere : 0 < row → (F (t.text (y + 1)) ≡ row → ⊥) → each (clause_words t e) (burn_at t e F (row - 1) y) ≡ []
    mark-elsewhere z n = each_none (clause_words t e) (burn-here ∙ go (is_burned t e y))
      where
        go : (b : Bool) → keep b (on_row F (row - 1) (t.text (y + 1))) y ≡ []
        go true = keep_one _ y refl ∙ keep-none alone y (ne_eqb (F (t.text (y + 1))) (row - 1 + 1) (λ d. n (omega (arith, z))))
        go false = keep-none _ y refl

    pub mark-not : is_burned t e y ≡ false → each (clause_words t e) (burn_at t e F (row - 1) y) ≡ []
    mark-not b = each_none (clause_words t e) (burn-here ∙ keep-none _ y b)

    pub mark-so : 0 < row → F (t.text (y + 1)) ≡ row → is_burned t e y ≡ true → each (clause_words t e) (burn_at t e F (row - 1) y) ≡ clause_words t e y
    mark-so z d b = each-one (clause_words t e) y (burn-here ∙ keep_one _ y b ∙ keep_one alone y (eq-eqb (F (t.text (y + 1))) (row - 1 + 1) (omega arith)))

-- the walk over the head of the entry tells all of them
pub marks-told : {nodes : List ℕ} {e to asset : ℕ} {clauses first : List ℕ} (N : Until nodes 0 e to 10) (T : Marking nodes e asset clauses first) (r : ℕ)
    → run (λ i. each (clause_words (tree_of T.clausal.view) e) (burn_at (tree_of T.clausal.view) e T.row_of r i)) (e + 1) (to - (e + 1)) ≡ each (clause_words (tree_of T.clausal.view) e) (burns_on (tree_of T.clausal.view) e T.row_of r)
unfolding below
marks-told {e = e} {to = to} N T r =
    let t = tree_of T.clausal.view in
    let a = N.after in
    let i = N.inside in
    let d = one_end N T.clausal.view in
    let y : e + 1 ≡ suc e = omega arith in
    sym (each-run (clause_words t e) (burn_at t e T.row_of r) (e + 1) (to - (e + 1)))
    ∙ ap (each (clause_words t e)) (sym (run-sooner (burn_at t e T.row_of r) (e + 1) to (t.end e) (omega arith) (omega arith) (λ j l h. keep-none _ j (until-rest N T.clausal.view j l (omega arith)))))
    ∙ ap (λ (n : ℕ). each (clause_words t e) (run (burn_at t e T.row_of r) n (t.end e - n))) y
