-- Children of a node in a lent part, one after another: where a walk over them stands, and what one step of it gives.
use Rattle.std.specs.Prelude.{ℕ, ◌*◌, ◌-◌, ◌<◌, ◌≤◌, ◌≡◌, List, length}
use Rattle.image.specs.Maxima.{max_nodes}
use Rattle.image.specs.Node.{end_of}
use Rattle.rules.specs.Tree.{state}
use Rattle.nodes.specs.Walk.{onward}
use Rattle.nodes.specs.Shown.{View, In, tree_of}

-- the nodes from `at` up to `to` all stand in the part, and none of them reaches past `to`
pub record Chain (part : List ℕ) (b at to : ℕ) : Type 0 where
  pub low : b ≤ at
  pub held : 16 * (to - b) ≤ length part
  pub under : to ≤ max_nodes
  pub ends : (p : ℕ) → at ≤ p → p < to → (p < end_of part (p - b)) × (end_of part (p - b) ≤ to)

-- the walk is done
pub record Ended (at to : ℕ) : Type 0 where
  pub done : to ≤ at

-- the walk gives the child that it stood at, and stands at that child's end
pub record Gave (part : List ℕ) (b at to child at' : ℕ) : Type 0 where
  pub is : child ≡ at
  pub before : at < to
  pub here : In part b child
  pub moved : (W : View part b) → at' ≡ (tree_of W).end child

-- a walk over the items and the fields of a contract gives the one that it stood at, and stands at the next
pub record Visited (part : List ℕ) (at to p at' : ℕ) : Type 0 where
  pub is : p ≡ at
  pub before : at < to
  pub here : In part 0 p
  pub moved : (W : View part 0) → at' ≡ onward (tree_of W) state p

-- a walk over this part begins at this node
pub record Begun (part : List ℕ) (b at : ℕ) (part' : List ℕ) (b' at' : ℕ) : Type 0 where
  pub nodes : part' ≡ part
  pub base : b' ≡ b
  pub first : at' ≡ at
