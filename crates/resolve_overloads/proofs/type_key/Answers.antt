-- `type_key` meets its contract: node by node.
use native.Mathlib.Omega.{arith}
use Prim.Native.Nat.{ℕ, ◌-◌}
use mathlib.Core.Path.{◌≡◌, ap, ◌∙◌}
use Rattle.nodes.proofs.Spans.{span_of}
use Rattle.resolve_overloads.specs.Keys.{mix, keyed}
use Rattle.resolve_overloads.proofs.Keys.{keyed-none, keyed-more}
use Rattle.resolve_overloads.proofs.type_key.Goals as goal

pub loop-p-init : goal.loop-p-init
loop-p-init c = let P = c.requires in let S = span_of P.0 P.1 (c.end-end.ensures P.0) in (S, omega arith, S.order, λ W. keyed-none W.image c.args.key c.args.y)

pub loop-p-preserved : goal.loop-p-preserved
loop-p-preserved c =
    let i = c.loop-p.invariant in
    let g = c.loop-p-test.true in
    let l = i.1 in (
      i.0,
      omega arith,
      omega arith,
      λ W. c.mix-k.ensures ∙ ap (mix c.loop-p.k) (c.token.ensures.1 W) ∙ keyed-more W.image c.args.key c.args.y c.loop-p.p l (i.3 W),
    )

pub returns : goal.returns
returns c =
    let i = c.loop-p.invariant in
    let g = c.loop-p-test.false in
    let h = i.2 in
    let z : c.loop-p.p ≡ c.end-end.result = omega arith in
    λ W. i.3 W ∙ ap (λ (x : ℕ). keyed W.image c.args.key c.args.y (x - c.args.y)) (z ∙ c.end-end.ensures W)
