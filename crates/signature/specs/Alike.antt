-- Types compared node by node, as rule 23 is found out without writing a text.
use Rattle.std.specs.Prelude.{ℕ, ◌+◌, ◌-◌, Bool, eqb}
use Rattle.image.specs.Pick.{both, every}
use Rattle.rules.specs.Sweep.{same}
use Rattle.rules.specs.Tree.{Tree}
use Rattle.rules.specs.Resolve.{signature}

-- the nodes p and q are of one kind, carry one text and are as long
unfoldable pub same_node : Tree → ℕ → ℕ → Bool
same_node t p q = both (same (t.text p) (t.text q)) (both (eqb (t.kind p) (t.kind q)) (eqb (t.end p + q) (t.end q + p)))

-- the types i and j are the same, node by node
unfoldable pub same_type : Tree → ℕ → ℕ → Bool
same_type t i j = both (eqb (t.end i + j) (t.end j + i)) (every (λ d. same_node t (i + d) (j + d)) (t.end i - i))

-- the entry g has the signature of e
abbrev pub signed_as : Tree → ℕ → ℕ → Bool
signed_as t e g = same (signature t g) (signature t e)
