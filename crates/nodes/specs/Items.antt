-- Which items a contract has: none of these kinds, or one.
use Rattle.std.specs.Prelude.{ℕ, ◌<◌, ◌≡◌, true, false, List}
use Rattle.rules.specs.Sweep.{has}
use Rattle.rules.specs.Tree.{Tree}
use Rattle.nodes.specs.Shown.{View, tree_of}

-- no node of these kinds stands below the contract, before node p
abbrev pub NoneUpTo : Tree → List ℕ → ℕ → Type 0
NoneUpTo t ks p = (i : ℕ) → 0 < i → i < p → has (t.kind i) ks ≡ false

-- none stands below the contract at all
abbrev pub NoItem : List ℕ → List ℕ → Type 0
NoItem ks nodes = (W : View nodes 0) → NoneUpTo (tree_of W) ks ((tree_of W).end 0)

-- one stands below the contract, before node p
abbrev pub SomeUpTo : Tree → List ℕ → ℕ → Type 0
SomeUpTo t ks p = (i : ℕ) × (0 < i) × (i < p) × (has (t.kind i) ks ≡ true)

abbrev pub SomeItem : List ℕ → List ℕ → Type 0
SomeItem ks nodes = (W : View nodes 0) → SomeUpTo (tree_of W) ks ((tree_of W).end 0)
