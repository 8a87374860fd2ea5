-- `same_node` meets its contract: names, kinds, and how far each node goes.
use native.Mathlib.Omega.{arith}
use Prim.Native.Nat.{ℕ, ◌+◌}
use mathlib.Core.Path.{sym, ◌∙◌, ap₂}
use lib.Dec.{eqb}
use Rattle.resolve_overloads.proofs.Turns.{few-nodes, node-name, node-kind, node_end}
use Rattle.resolve_overloads.proofs.same_node.Goals as goal

pub returns-then-name : goal.returns-then-name
returns-then-name c = λ W. node-name W c.requires.1 c.requires.2 (λ e. c.if-name.true (c.name.ensures W ∙ e ∙ sym (c.name-2.ensures W)))

pub returns-then-kind : goal.returns-then-kind
returns-then-kind c = λ W. node-kind W c.requires.1 c.requires.2 (sym (c.name.ensures W) ∙ c.if-name.false ∙ c.name-2.ensures W) (λ e. c.if-kind.true (c.kind.ensures W ∙ e ∙ sym (c.kind-2.ensures W)))

pub overflow_add-result : goal.overflow_add-result
overflow_add-result c = let P = c.requires in let a = c.end.ensures P.0 in let f = (few-nodes P.0 P.1).1 in omega arith

pub overflow_add-result-2 : goal.overflow_add-result-2
overflow_add-result-2 c = let P = c.requires in let a = c.end-2.ensures P.0 in let f = (few-nodes P.0 P.2).1 in omega arith

pub returns : goal.returns
returns c =
    λ W.
    ap₂ (λ (x y : ℕ). eqb (x + c.args.q) (y + c.args.p)) (c.end.ensures W) (c.end-2.ensures W)
    ∙ node_end W c.requires.1 c.requires.2 (sym (c.name.ensures W) ∙ c.if-name.false ∙ c.name-2.ensures W) (sym (c.kind.ensures W) ∙ c.if-kind.false ∙ c.kind-2.ensures W)
