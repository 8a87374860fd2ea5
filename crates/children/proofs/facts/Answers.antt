-- `facts` meets its contract: the local table is that of the definitions, and past it there is no kind.
use Prim.Native.Nat.{ℕ}
use mathlib.Core.Path.{◌∙◌, ap}
use mathlib.Core.List.{List}
use lib.ListN.{get_or}
use Rattle.image.proofs.Digits.{facts_at, facts-past}
use Rattle.children.proofs.facts.Goals as goal

pub returns-then-k-lt46 : goal.returns-then-k-lt46
returns-then-k-lt46 c = ap (λ (l : List ℕ). get_or l c.args.k 0) c.requires ∙ facts_at _ c.if-k-lt46.true

pub returns-else-k-lt46 : goal.returns-else-k-lt46
returns-else-k-lt46 c = facts-past _ c.if-k-lt46.false
