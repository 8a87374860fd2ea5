-- Entries compared node by node: one name, and parameters of the same types in order. Entries of one key are told apart so.
use Rattle.std.specs.Prelude.{ℕ, zero, suc, ◌+◌, Bool, true, not, eqb, ltb}
use Rattle.image.specs.Maxima.{max_nodes}
use Rattle.image.specs.Pick.{pick, both}
use Rattle.rules.specs.Sweep.{same}
use Rattle.rules.specs.Tree.{Tree}
use Rattle.signature.specs.Alike.{same_type}

-- a parameter of the entry x stands at p
abbrev pub is_param : Tree → ℕ → ℕ → Bool
is_param t x p = both (ltb p (t.end x)) (eqb (t.kind p) 10)

-- from p and from q on the entries g and e have as many parameters (at most n), of the same types in order
unfoldable pub same_params : Tree → ℕ → ℕ → ℕ → ℕ → ℕ → Bool
same_params t g e zero p q = true
same_params t g e (suc n) p q =
    pick (is_param t g p)
    (both (is_param t e q) (both (same_type t (p + 2) (q + 2)) (same_params t g e n (t.end p) (t.end q))))
    (not (is_param t e q))

-- the entries g and e have one name and the same parameters' types, node by node
unfoldable pub same_nodes : Tree → ℕ → ℕ → Bool
same_nodes t g e = both (same (t.text (g + 1)) (t.text (e + 1))) (same_params t g e max_nodes (g + 2) (e + 2))
