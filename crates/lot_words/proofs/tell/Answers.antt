-- `tell` meets its contract: two words more.
use native.Mathlib.Omega.{arith}
use mathlib.Core.Path.{refl}
use native.Mathlib.Numerals.{add-one}
use Rattle.lot_words.proofs.tell.Goals as goal

pub returns : goal.returns
returns c = let k = c.args.count in (λ _. record { count = refl; words = cc (add-one k) }, omega arith)
