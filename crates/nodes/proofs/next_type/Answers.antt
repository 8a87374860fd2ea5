-- `next_type` meets its contract: into what may hold a type, past another node.
use mathlib.Core.Path.{◌∙◌, sym, ap}
use Prim.Native.Nat.{ℕ}
use Rattle.rules.specs.Sweep.{has}
use Rattle.rules.specs.Tree.{type_holders}
use Rattle.nodes.specs.Shown.{tree_of}
use Rattle.nodes.proofs.Walks.{onward-into, onward-past}
use Rattle.nodes.proofs.next_type.Goals as goal

pub returns-then-is_type_holder : goal.returns-then-is_type_holder
returns-then-is_type_holder c = λ W. onward-into (tree_of W) type_holders _ (ap (λ (k : ℕ). has k type_holders) (sym (c.kind.ensures W)) ∙ sym c.is_type_holder.ensures ∙ c.if-is_type_holder.true)

pub returns : goal.returns
returns c = λ W. onward-past (tree_of W) type_holders _ (ap (λ (k : ℕ). has k type_holders) (sym (c.kind.ensures W)) ∙ sym c.is_type_holder.ensures ∙ c.if-is_type_holder.false) (c.end.ensures W)
