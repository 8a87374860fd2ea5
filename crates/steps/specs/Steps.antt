-- The walk over the nodes that finds refusals 6 and 7: the positions that it goes through. Nothing that a reader must believe; proofs/Walking of `admission` says what stands at each of them.
use Rattle.std.specs.Prelude.{ℕ, ◌+◌, ◌-◌, ◌<◌, ◌≤◌, ◌≡◌, List, Bool, ◌⊎◌, ltb, leb, eqb, get_or, set}
use Rattle.image.specs.Pick.{pick, both}
use Rattle.image.specs.Maxima.{max_nodes}
use Rattle.image.specs.Node.{kind_of, end_of}
use Rattle.image.specs.Digits.{fields_ok}
use Rattle.steps.specs.declared.Position.{Position}

-- node 0 is the contract and ends at n, and its fields are in order
abbrev pub root_ok : List ℕ → List ℕ → List ℕ → ℕ → ℕ → Bool
root_ok nodes names text n m = both (eqb (kind_of nodes 0) 1) (both (eqb (end_of nodes 0) n) (fields_ok nodes names text m 0))

-- node i is in order as a child of a node that ends at e, whatever its own children are: its fields, and an end past it and within e
abbrev pub child_ok : List ℕ → List ℕ → List ℕ → ℕ → ℕ → ℕ → Bool
child_ok nodes names text m e i = both (fields_ok nodes names text m i) (both (ltb i (end_of nodes i)) (leb (end_of nodes i) e))

abbrev pub larger : ℕ → ℕ → ℕ
larger a b = pick (ltb a b) b a

-- before node 1: the contract, which ends at n, is open
abbrev pub begun : ℕ → Position
begun n = record { at = 1; state = 1; end = n; depth = 0; deepest = 0 }

-- the open node ends here: the node that it stands in, with its state and end from the stack, is open again
abbrev pub ascended : List ℕ → List ℕ → Position → Position
ascended states ends p = record { at = p.at; state = get_or states (p.depth - 1) 0; end = get_or ends (p.depth - 1) 0; depth = p.depth - 1; deepest = p.deepest }

-- node `at` is behind: the open node's row is in state `after`
abbrev pub passed : ℕ → Position → Position
passed after p = record { at = p.at + 1; state = after; end = p.end; depth = p.depth; deepest = larger p.deepest p.depth }

-- node `at`, which ends at `to`, is open: its row is in state `row`
abbrev pub opened : ℕ → ℕ → Position → Position
opened row to p = record { at = p.at + 1; state = row; end = to; depth = p.depth + 1; deepest = larger p.deepest p.depth }

-- room for one node more
pub record Roomy (p : Position) (after : ℕ) : Type 0 where
  pub at_small : p.at < max_nodes
  pub depth_small : p.depth < max_nodes
  pub end_small : p.end ≤ max_nodes
  pub after_small : after < 31

-- a node that has no children, and needs none, is passed
pub record Passed (after row to : ℕ) (ps es ps' es' : List ℕ) (p r : Position) : Type 0 where
  pub last : to ≤ p.at + 1
  pub may : 19 ≤ row
  pub moved : r ≡ passed after p
  pub same_states : ps' ≡ ps
  pub same_ends : es' ≡ es

-- a node is opened: of the one that it stands in, the end and the state after it are on the stack
pub record Opened (after row to : ℕ) (ps es ps' es' : List ℕ) (p r : Position) : Type 0 where
  pub moved : r ≡ opened row to p
  pub put_state : ps' ≡ set ps p.depth after
  pub put_end : es' ≡ set es p.depth p.end

-- one node further
abbrev pub Further : ℕ → ℕ → ℕ → List ℕ → List ℕ → List ℕ → List ℕ → Position → Position → Type 0
Further after row to ps es ps' es' p r = Passed after row to ps es ps' es' p r ⊎ Opened after row to ps es ps' es' p r
