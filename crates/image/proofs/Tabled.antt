-- A table that a loop over the nodes fills: what stands in each cell after i nodes. Refusal 8 marks in one.
use Prim.Native.Nat.{ℕ, ◌+◌, ◌<◌}
use mathlib.Core.Path.{◌≡◌, ◌∙◌, sym}
use mathlib.Core.List.{List}
use mathlib.Core.Logic.{⊎_elim}
use native.Mathlib.Omega.{arith}
use lib.ListN.{length, get_or, set, replicate, length-set, length-replicate, get_or-replicate}
use lib.Seq.{get_or-set_same, get_or-set_other}
use Rattle.image.proofs.Decide.{eq-or-ne}

-- `size` cells, each `blank` where nothing was put; `held e i` is what cell e holds after i nodes
module _ {A : Type 0} (size : ℕ) (blank : A) (held : ℕ → ℕ → A) where
  pub record Tabled (i : ℕ) (r : List A) : Type 0 where
    pub cells : length r ≡ size
    pub cell : (e : ℕ) → e < size → get_or r e blank ≡ held e i

  pub tabled-none : ((e : ℕ) → held e 0 ≡ blank) → Tabled 0 (replicate size blank)
  tabled-none start = record { cells = length-replicate size blank; cell = λ e h. get_or-replicate size e blank blank h ∙ sym (start e) }

  module _ (i : ℕ) (r : List A) (T : Tabled i r) where
    -- node i changes cell x alone
    pub tabled-set : (x : ℕ) (v : A) → x < size → v ≡ held x (i + 1) → ((e : ℕ) → (x ≡ e → ⊥) → held e (i + 1) ≡ held e i) → Tabled (i + 1) (set r x v)
    tabled-set x v l new same = record { cells = length-set r x v ∙ T.cells; cell = at-cell }
      where
        at-cell : (e : ℕ) → e < size → get_or (set r x v) e blank ≡ held e (i + 1)
        at-cell e h =
            ⊎_elim
            (λ (q : x ≡ e). let s = T.cells in rw (← q) (get_or-set_same r x v blank (omega arith) ∙ new))
            (λ (n : x ≡ e → ⊥). get_or-set_other r x e v blank (omega (arith, n)) ∙ T.cell e h ∙ sym (same e n))
            (eq-or-ne x e)
