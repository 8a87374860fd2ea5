-- `mark_fields` meets its contract: a walk over items and fields in which a later FieldDecl replaces an earlier one's mark.
use Prim.Native.Nat.{◌≤◌}
use Rattle.nodes.proofs.Declared.{Over}
use Rattle.resolve_calls.proofs.Lasts.{Typed}
use Rattle.resolve_calls.proofs.mark_fields.Given as goal

abbrev pub invariant-loop-p : goal.invariant-loop-p
invariant-loop-p l =
    let s = l.initial.p-iterator in
    Over l.nodes s.to l.p-iterator × (1 ≤ l.p-iterator.at) × Typed l.nodes l.address s.to l.initial.fields l.fields l.p-iterator.at
