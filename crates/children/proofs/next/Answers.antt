-- `next` meets its contract: the lent table is that of the definitions, and each state that it holds is one.
use native.Mathlib.Omega.{arith}
use Prim.Native.Nat.{ℕ, ◌+◌, ◌*◌}
use mathlib.Core.Path.{◌∙◌, ap}
use mathlib.Core.List.{List}
use lib.ListN.{get_or}
use Rattle.image.proofs.Digits.{next_small}
use Rattle.children.proofs.next.Goals as goal

pub returns : goal.returns
returns c =
    let a = c.args in
    let e = c.from.ensures ∙ ap (λ (l : List ℕ). get_or l (16 * a.s + a.f) 0) c.requires.2 in
    let h = next_small (16 * a.s + a.f) (omega arith) in
    (e, omega arith)
