-- Which parts declare a row, and which are a 60, from the tests that are passed.
use Prim.Native.Nat.{ℕ, ◌+◌, ◌<◌, ◌≤◌}
use mathlib.Core.Path.{◌≡◌, refl, ◌∙◌, sym}
use mathlib.Core.Bool.{Bool, true, false}
use mathlib.Core.List.{List}
use native.Mathlib.Omega.{arith}
use borrow.Author.Tests.{eq-eqb, ne_eqb, le-ltb, lt-ltb}
use lib.Dec.{ltb}
use Rattle.image.specs.Pick.{both}
use Rattle.rules.specs.Sweep.{either, same, has_word}
use Rattle.rules.specs.Tree.{Tree, param, «let», peels}
use Rattle.rules.specs.Words.{Q_Asset, split, mint}
use Rattle.rules.specs.Vocabulary.{down, some_below, at_bottom, named, is_field, is_ident, typed}
use Rattle.rules.specs.Linear.{produces, is_row, is_alias}
use Rattle.records.proofs.Sweep.{has_one, has-not}
use Rattle.linear_parts.specs.Parts.{is_maker, is60}

either-false : (b : Bool) → either b false ≡ b
either-false true = refl
either-false false = refl

module _ (t : Tree) (p : ℕ) where
  -- a callee that makes an asset
  pub maker-field : t.kind p ≡ 42 → same (t.text (t.end (p + 1))) split ≡ is_maker p t
  unfolding is_field is_ident has_word
  maker-field k = sym (rw (eq-eqb (t.kind p) 42 k, ne_eqb (t.kind p) 35 (λ e. omega arith)) (either-false _ ∙ either-false _))

  pub maker-ident : t.kind p ≡ 35 → same (t.text p) mint ≡ is_maker p t
  unfolding is_field is_ident has_word
  maker-ident k = sym (rw (ne_eqb (t.kind p) 42 (λ e. omega arith), eq-eqb (t.kind p) 35 k) (either-false _))

  pub maker-other : (t.kind p ≡ 42 → ⊥) → (t.kind p ≡ 35 → ⊥) → false ≡ is_maker p t
  unfolding is_field is_ident
  maker-other m n = sym (rw (ne_eqb (t.kind p) 42 m, ne_eqb (t.kind p) 35 n))

-- an asset parameter or an earlier tracked Let has the name w
abbrev pub is_named_row : Tree → ℕ → ℕ → List ℕ → Bool
is_named_row t e l w = either (some_below t param e (λ x. both (named t w x) (typed t Q_Asset x))) (some_below t «let» e (λ x. both (ltb x l) (both (named t w x) (produces t x))))

-- whether part p of the entry e declares a row, and whether it is a 60
module _ (t : Tree) (e p : ℕ) where
  pub part-other : (t.kind p ≡ 10 → ⊥) → (t.kind p ≡ 25 → ⊥) → (is_row t p ≡ false) × (is60 e p t ≡ false)
  unfolding is_row
  part-other m n = (rw (has-not (t.kind p) 10 m, has-not (t.kind p) 25 n), rw (has-not (t.kind p) 25 n))

  pub part-param : t.kind p ≡ 10 → (is_row t p ≡ same (t.text (p + 3)) Q_Asset) × (is60 e p t ≡ false)
  unfolding is_row typed
  part-param k = let n = has-not (t.kind p) 25 (λ z. omega arith) in (rw (has_one (t.kind p) 10 k, n) (either-false _), rw n)

  -- of a Let, from what its value peels to
  module _ (k : t.kind p ≡ 25) (v : ℕ) (d : v ≡ down t peels (p + 2)) where
    let-row : is_row t p ≡ produces t p
    unfolding is_row
    let-row = rw (has-not (t.kind p) 10 (λ z. omega arith), has_one (t.kind p) 25 k)

    let-60 : is60 e p t ≡ at_bottom t peels (p + 2) (is_alias t e p)
    let-60 = rw (has_one (t.kind p) 25 k)

    pub let-over : t.end (p + 2) ≤ v → (is_row t p ≡ false) × (is60 e p t ≡ false)
    unfolding produces at_bottom
    let-over h = (let-row ∙ over _, let-60 ∙ over (is_alias t e p))
      where
        over : (q : ℕ → Bool) → at_bottom t peels (p + 2) q ≡ false
        over q = rw (sym d) (simp (le-ltb v (t.end (p + 2)) h))

    module _ (h : v < t.end (p + 2)) where
      bottom : (q : ℕ → Bool) → at_bottom t peels (p + 2) q ≡ q v
      unfolding at_bottom
      bottom q = rw (sym d) (simp (lt-ltb v (t.end (p + 2)) h))

      no_row : (t.kind v ≡ 43 → ⊥) → is_row t p ≡ false
      unfolding produces
      no_row n = let-row ∙ bottom _ ∙ rw (ne_eqb (t.kind v) 43 n)

      no-60 : (t.kind v ≡ 35 → ⊥) → is60 e p t ≡ false
      unfolding is_alias
      no-60 n = let-60 ∙ bottom (is_alias t e p) ∙ simp (ne_eqb (t.kind v) 35 n)

      pub let-other : (t.kind v ≡ 43 → ⊥) → (t.kind v ≡ 35 → ⊥) → (is_row t p ≡ false) × (is60 e p t ≡ false)
      let-other m n = (no_row m, no-60 n)

      pub let-call : t.kind v ≡ 43 → (is_row t p ≡ is_maker (v + 1) t) × (is60 e p t ≡ false)
      unfolding produces
      let-call c = (let-row ∙ bottom _ ∙ simp (eq-eqb (t.kind v) 43 c), no-60 (λ z. omega arith))

      pub let-ident : t.kind v ≡ 35 → (is_row t p ≡ false) × (is60 e p t ≡ is_named_row t e p (t.text v))
      unfolding is_alias
      let-ident i = (no_row (λ z. omega arith), let-60 ∙ bottom (is_alias t e p) ∙ simp (eq-eqb (t.kind v) 35 i))
