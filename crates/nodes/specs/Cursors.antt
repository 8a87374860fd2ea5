-- A cursor over the children of a node, and what one step of it gives: the child, and the cursor moved past it.
use Rattle.std.specs.Prelude.{ℕ, ◌-◌, ◌≡◌, List}
use Rattle.image.specs.Node.{end_of}
use Rattle.nodes.specs.Shown.{View, tree_of}
use Rattle.nodes.specs.declared.Cursor.{Cursor}
use Rattle.nodes.specs.declared.Step.{Step}

pub record Stepped (nodes : List ℕ) (c : Cursor) (r : Step) : Type 0 where
  pub child : r.child ≡ c.at
  pub base : r.rest.base ≡ c.base
  pub end : r.rest.end ≡ c.end
  pub bytes : r.rest.at ≡ end_of nodes (c.at - c.base)
  pub moved : (b : ℕ) → c.base ≡ b → (W : View nodes b) → r.rest.at ≡ (tree_of W).end c.at
