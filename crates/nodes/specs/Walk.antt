-- Walks that do not look at every node: into a node of some kinds, past the whole of any other.
use Rattle.std.specs.Prelude.{ℕ, ◌+◌, List}
use Rattle.image.specs.Pick.{pick}
use Rattle.rules.specs.Sweep.{has}
use Rattle.rules.specs.Tree.{Tree}

abbrev pub onward : Tree → List ℕ → ℕ → ℕ
onward t into p = pick (has (t.kind p) into) (p + 1) (t.end p)
