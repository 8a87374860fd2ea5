-- `signers` meets its contract: a walk over the head of the entry is one over all of it.
use Prim.Native.Nat.{◌+◌}
use Rattle.rules.specs.Sweep.{keep}
use Rattle.nodes.specs.Shown.{tree_of}
use Rattle.nodes.proofs.Iterated.{Over}
use Rattle.nodes.proofs.Steps.{Walk}
use lib.Dec.{ltb}
use Rattle.rules.specs.Tree.{param}
use Rattle.resolve_clauses.specs.Said.{OneTable, at_word}
use Rattle.resolve_clauses.proofs.signers.Given as goal

abbrev pub invariant-loop-part : goal.invariant-loop-part
invariant-loop-part l = Over l.nodes 0 l.to l.part-iterator × Walk (λ (T : OneTable l.nodes 0 l.marks). T.view) param (λ T x. let t = tree_of T.view in keep (ltb (t.end (x + 2)) (t.end x)) (at_word l.rule T.says t) (t.end (x + 2))) (l.entry + 1) l.to 1 l.initial.out l.count l.out l.total l.part-iterator.rest.at
