-- Lists over the nodes of a tree in preorder, which is the order of their numbers: the text of rule 23 is written with them.
use Rattle.std.specs.Prelude.{ℕ, suc, ◌-◌, Bool, not, List, ltb}
use Rattle.rules.specs.Sweep.{keep, some, run, has}
use Rattle.rules.specs.Tree.{Tree}

-- what each node below a whose kind is one of ks contributes
unfoldable pub below : {A : Type 0} → Tree → List ℕ → ℕ → (ℕ → List A) → List A
below t ks a f = run (λ i. keep (has (t.kind i) ks) f i) (suc a) (t.end a - suc a)

-- what each child of a after the first contributes; c, below a, is a child if no node between them reaches past it
unfoldable pub is_child : Tree → ℕ → ℕ → Bool
is_child t a c = not (some (λ q. ltb c (t.end q)) (suc a) (c - suc a))

unfoldable pub arguments : {A : Type 0} → Tree → ℕ → (ℕ → List A) → List A
arguments t a f = run (λ c. keep (is_child t a c) f c) (suc (suc a)) (t.end a - suc (suc a))
