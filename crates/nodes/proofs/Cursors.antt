-- A walk by a cursor: it stays in its part and keeps its end, and each step goes on to the end of the child.
use Prim.Native.Nat.{ℕ}
use mathlib.Core.Path.{◌≡◌, subst}
use mathlib.Core.List.{List}
use Rattle.nodes.specs.Shown.{View, tree_of}

-- a part is one, whichever way the number of its first node is written
pub at_base : {nodes : List ℕ} {a q : ℕ} (p : ℕ) → ((W : View nodes a) → q ≡ (tree_of W).end p) → (b : ℕ) → a ≡ b → (W : View nodes b) → q ≡ (tree_of W).end p
at_base {nodes} {a} {q} p f b e = subst (λ (b : ℕ). (W : View nodes b) → q ≡ (tree_of W).end p) e f
