-- `parameters` meets its contract: the nodes after the Name are the parameters.
use native.Mathlib.Omega.{arith}
use mathlib.Core.Path.{◌∙◌, ap}
use Prim.Native.Nat.{ℕ, ◌+◌, ◌-◌}
use Rattle.resolve_emits.proofs.Params.{event-long, parameters-are}
use Rattle.resolve_emits.proofs.parameters.Goals as goal

pub overflow_sub-result : goal.overflow_sub-result
overflow_sub-result c = let W = c.requires.0 in let l = event-long W c.requires.1.0 (c.requires.1.1 W) in let e = c.end.ensures W in omega arith

pub returns : goal.returns
returns c = λ W. ap (λ (e : ℕ). e - (c.args.event + 2)) (c.end.ensures W) ∙ parameters-are W c.requires.1.0 (c.requires.1.1 W)

pub end-requires : goal.end-requires
end-requires c = c.requires.1.0
