-- What the tables by name say of a row: it is the first, the last row of its name ("the first tracked row of its name", "the last row of the name" of document 01).
use Prim.Native.Nat.{ℕ, ◌+◌, ◌<◌}
use mathlib.Core.Path.{◌≡◌, refl, ap, ◌∙◌, sym}
use mathlib.Core.Bool.{Bool, true, false, not, true≢false}
use mathlib.Core.List.{List}
use mathlib.Core.Logic.{◌⊎◌, inl, inr, ⊎_elim}
use native.Mathlib.Omega.{arith}
use borrow.Author.Tests.{eq-eqb, ne_eqb, ltb-true, ltb-false}
use lib.Dec.{eqb, ltb}
use lib.ListN.{length, get_or}
use Rattle.image.proofs.Decide.{eq-or-ne}
use Rattle.rules.specs.Tree.{Tree, param_let}
use Rattle.rules.specs.Vocabulary.{named}
use Rattle.rules.specs.Linear.{is_row, is_earlier, is_later}
use Rattle.rules.proofs.Reflect.{one-fact, Tells, tells_as, tells_both, tells-ltb, tells-some_below, tells-named}
use Rattle.linear_parts.specs.Parts.{rows_of, first_row, last_row}
use Rattle.linear_parts.proofs.Lists.{tells-self, row_at, at_row, rows-rise}
use Rattle.linear_parts.proofs.Noted.{FirstPasses, first_passes, LastPasses, last-passes}

side : (x y : ℕ) → (x < y) ⊎ ((x ≡ y) ⊎ (y < x))
side x y = go (ltb x y) refl (eq-or-ne x y)
  where
    go : (b : Bool) → ltb x y ≡ b → (x ≡ y) ⊎ (x ≡ y → ⊥) → (x < y) ⊎ ((x ≡ y) ⊎ (y < x))
    go true e d = inl (ltb-true x y e)
    go false e (inl d) = inr (inl d)
    go false e (inr n) = let h = ltb-false x y e in inr (inr (omega (arith, n)))

-- whether a number is another, told by a fact of those that are not
tells-other : (v k : ℕ) {P : Type 0} → ((v ≡ k → ⊥) → P) → (P → v ≡ k → ⊥) → Tells (not (eqb v k)) P
tells-other v k f g = record { so = λ e. f (λ d. true≢false (sym e ∙ ap not (eq-eqb v k d))); back = λ p. ap not (ne_eqb v k (g p)) }

module _ (t : Tree) (e r : ℕ) (l : r < length (rows_of e t)) where
  abbrev xs : List ℕ
  xs = rows_of e t

  abbrev x : ℕ
  x = get_or (rows_of e t) r 0

  abbrev q : ℕ → Bool
  q = named t (t.text (get_or (rows_of e t) r 0 + 1))

  itself : q x ≡ true
  itself = (tells-named t (t.text (x + 1)) x).back refl

  -- rows and their nodes are in the same order
  before : (s k : ℕ) → s < length xs → k < length xs → get_or xs s 0 < get_or xs k 0 → s < k
  before s k h g d =
      ⊎_elim (λ (o : s < k). o)
      (⊎_elim (λ (o : s ≡ k). let z = ap (λ (j : ℕ). get_or xs j 0) o in absurd (omega arith)) (λ (o : k < s). let z = rows-rise t e k s o h in absurd (omega arith)))
      (side s k)

  earlier : Tells (is_earlier t e x) ((s : ℕ) × (s < r) × (q (get_or xs s 0) ≡ true))
  unfolding is_earlier
  earlier =
      tells_as
      (λ f. let a = at_row t e f.0 f.1 f.2.1.1 in let z = a.2 in let d = f.2.0 in (a.0, before a.0 r a.1 l (omega arith), ap q z ∙ f.2.1.0))
      (λ f. let h = f.1 in let R = row_at t e f.0 (omega arith) in (get_or xs f.0 0, R.0, (rows-rise t e f.0 r h l, (f.2, R.1))))
      (tells-some_below t param_let e (λ z. tells_both (tells-ltb z x) (tells_both (tells-self (q z)) (tells-self (is_row t z)))))

  later : Tells (is_later t e x) ((s : ℕ) × (r < s) × (s < length xs) × (q (get_or xs s 0) ≡ true))
  unfolding is_later
  later =
      tells_as
      (λ f. let a = at_row t e f.0 f.1 f.2.1.1 in let z = a.2 in let d = f.2.0 in (a.0, before r a.0 l a.1 (omega arith), a.1, ap q z ∙ f.2.1.0))
      (λ f. let R = row_at t e f.0 f.2 in (get_or xs f.0 0, R.0, (rows-rise t e r f.0 f.1 f.2, (f.3, R.1))))
      (tells-some_below t param_let e (λ z. tells_both (tells-ltb x z) (tells_both (tells-self (q z)) (tells-self (is_row t z)))))

  pub first-of-name : is_earlier t e x ≡ not (eqb (first_row t xs (t.text (x + 1))) (r + 1))
  first-of-name = one-fact earlier (go (first_row t xs (t.text (x + 1))) (first_passes q 0 xs))
    where
      go : (v : ℕ) → FirstPasses q 0 xs v → Tells (not (eqb v (r + 1))) ((s : ℕ) × (s < r) × (q (get_or xs s 0) ≡ true))
      go v (inl f) = absurd (true≢false (sym itself ∙ f.1 r l))
      go v (inr (s, d, P, f)) =
          tells-other v (r + 1)
          (λ n. ⊎_elim (λ (o : s < r). (s, o, P.is)) (⊎_elim (λ (o : s ≡ r). absurd (n (omega arith))) (λ (o : r < s). absurd (true≢false (sym itself ∙ f r o)))) (side s r))
          (λ g z. let h = g.1 in true≢false (sym g.2 ∙ f g.0 (omega arith)))

  pub last-of-name : is_later t e x ≡ not (eqb (last_row t xs (t.text (x + 1))) (r + 1))
  last-of-name = one-fact later (go (last_row t xs (t.text (x + 1))) (last-passes q 0 0 xs))
    where
      go : (v : ℕ) → LastPasses q 0 0 xs v → Tells (not (eqb v (r + 1))) ((s : ℕ) × (r < s) × (s < length xs) × (q (get_or xs s 0) ≡ true))
      go v (inl f) = absurd (true≢false (sym itself ∙ f.1 r l))
      go v (inr (s, d, P, f)) =
          tells-other v (r + 1)
          (λ n. ⊎_elim (λ (o : s < r). absurd (true≢false (sym itself ∙ f r o l))) (⊎_elim (λ (o : s ≡ r). absurd (n (omega arith))) (λ (o : r < s). (s, o, P.in_rows, P.is))) (side s r))
          (λ g z. let h = g.1 in true≢false (sym g.3 ∙ f g.0 (omega arith) g.2))
