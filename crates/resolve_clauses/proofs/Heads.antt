-- Walks over the children of an item as a `for` takes them: over an entry's head, to its first statement; and the entry that a child stands in.
use Prim.Native.Nat.{ℕ, ◌+◌, ◌<◌, ◌≤◌}
use mathlib.Core.Path.{◌≡◌}
use mathlib.Core.List.{List}
use native.Mathlib.Omega.{arith}
use Rattle.nodes.specs.declared.walk.Children.{Children}
use Rattle.nodes.specs.Chain.{Begun}
use Rattle.nodes.specs.Entries.{HeldNode}
use Rattle.nodes.specs.Shown.{View, In, tree_of}
use Rattle.nodes.proofs.Entries.{end-bytes}
use Rattle.nodes.proofs.Iterated.{Over}
use Rattle.nodes.proofs.Parts.{inside}

pub headed : {part : List ℕ} {from to : ℕ} {s s' : Children} → s' ≡ s → Begun part 0 from s.nodes.now s.rest.base s.rest.at × (s.rest.end ≡ to) → Over part 0 to s'
headed e b = rw e (record { nodes = b.0.nodes; base = b.0.base; last = b.1 })

pub stands-in : {X : Type 0} {nodes : List ℕ} {a w p to : ℕ} (W : View nodes 0) (h : HeldNode nodes a w X) → In nodes 0 a → a + 1 ≤ p → p < to → to ≡ (tree_of W).end a → h.entries p ≡ w
stands-in {a = a} W h i l u d = let e = end-bytes W a (inside W i) in h.held _ (omega arith) (omega arith)
