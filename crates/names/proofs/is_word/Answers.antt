-- `is_word` meets its contract: equal words have equal numbers.
use mathlib.Core.Path.{◌∙◌, ap}
use Prim.Native.Nat.{ℕ}
use lib.Dec.{eqb}
use Rattle.names.proofs.Said.{said}
use Rattle.names.proofs.is_word.Goals as goal

pub returns : goal.returns
returns c = λ W w N. ap (λ (x : ℕ). eqb x c.args.number) (c.name.ensures W) ∙ said c.requires W w N
