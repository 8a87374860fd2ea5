-- The range of a loop: the nodes from `from` up to `to` all stand in the part.
use Rattle.std.specs.Prelude.{ℕ, ◌*◌, ◌-◌, ◌≤◌, List, length}
use Rattle.image.specs.Maxima.{max_nodes}

pub record Span (part : List ℕ) (b from to : ℕ) : Type 0 where
  pub start : b ≤ from
  pub order : from ≤ to
  pub held : 16 * (to - b) ≤ length part
  pub under : to ≤ max_nodes
