-- A walk from child to child: where it stands is a child, and the nodes that it leaves out are none.
use Prim.Native.Nat.{ℕ, ◌<◌, ◌≤◌}
use mathlib.Core.Path.{◌≡◌, refl, sym}
use mathlib.Core.Bool.{Bool, true, false}
use mathlib.Core.List.{List}
use mathlib.Core.Logic.{⊎_elim}
use native.Mathlib.Nat.{eq-or-lt_of_le}
use native.Mathlib.Omega.{arith}
use borrow.Author.Tests.{ltb-true, ltb-false}
use lib.Dec.{ltb}
use Rattle.rules.specs.Tree.{Tree}
use Rattle.rules.specs.Vocabulary.{is_child}
use Rattle.rules.proofs.Reflect.{tells-is_child}
use Rattle.nodes.specs.Shown.{View, In, tree_of}
use Rattle.nodes.proofs.Shapes.{within, ends-within}

-- the walk over the children of c has come to p: no node before p reaches past it
abbrev pub Reached : Tree → ℕ → ℕ → Type 0
Reached t c p = (q : ℕ) → c < q → q < p → t.end q ≤ p

-- a node within a child is no child
pub no-child : (t : Tree) (c p j : ℕ) → c < p → p < j → j < t.end p → is_child t c j ≡ false
no-child t c p j l h g = go (is_child t c j) refl
  where
    go : (b : Bool) → is_child t c j ≡ b → is_child t c j ≡ false
    go false e = e
    go true e = let z = (tells-is_child t c j).so e p l h in absurd (omega arith)

module _ {part : List ℕ} {b m : ℕ} (W : View part b) (i : In part b m) where
  pub reached-on : {p : ℕ} → m < p → p < (tree_of W).end m → Reached (tree_of W) m p → Reached (tree_of W) m ((tree_of W).end p)
  reached-on {p} l h R q a g = go (ltb q p) refl
    where
      go : (x : Bool) → ltb q p ≡ x → (tree_of W).end q ≤ (tree_of W).end p
      go true e = let z = R q a (ltb-true q p e) in let y = (ends-within W i l h).0 in omega arith
      go false e = ⊎_elim (λ (s : p ≡ q). rw (sym s) (omega arith)) (λ (f : p < q). (ends-within W (within W i l h) f g).1) (eq-or-lt_of_le (ltb-false q p e))
