-- The items of a contract at a glance: where one of its kind is found, one stands in it, and where none is, none does.
use Rattle.std.specs.Prelude.{◌≡◌, true, false, List, ℕ}
use Rattle.rules.specs.Tree.{event, genesis}
use Rattle.nodes.specs.Items.{NoItem, SomeItem}
use Rattle.items.specs.declared.Items.{Items}

pub record ItemsOf (nodes : List ℕ) (items : Items) : Type 0 where
  pub no_event : items.event ≡ false → NoItem event nodes
  pub no_genesis : items.genesis ≡ false → NoItem genesis nodes
  pub some_event : items.event ≡ true → SomeItem event nodes
  pub some_genesis : items.genesis ≡ true → SomeItem genesis nodes
