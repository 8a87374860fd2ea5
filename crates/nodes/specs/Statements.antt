-- The statements of an item, lent as their own part of the node area: they stand one after another from `base` to the item's end.
use Rattle.std.specs.Prelude.{ℕ, ◌<◌, ◌≤◌, List}
use Rattle.image.specs.Admit.{nodes_of}
use Rattle.image.proofs.Row.{Kids}
use Rattle.nodes.specs.Shown.{View, tree_of}

pub record Statements (nodes : List ℕ) (base : ℕ) : Type 0 where
  pub view : View nodes base
  pub item : ℕ
  pub positive : 0 < item
  pub after : item < base
  pub inside : view.upto ≤ (tree_of view).end item
  pub stand : Kids (nodes_of view.image) 24 28 view.upto base
