-- `is_clean` meets its contract: no node passed has a record.
use Prim.Native.Nat.{◌-◌, ◌≤◌}
use mathlib.Core.List.{[]}
use mathlib.Core.Path.{◌≡◌}
use Rattle.rules.specs.Sweep.{run}
use Rattle.nodes.specs.Shown.{tree_of}
use Rattle.nodes.proofs.Spans.{Span}
use Rattle.resolve_calls.specs.Called.{Calling, CallWords, at34, at40}
use Rattle.resolve_calls.proofs.is_clean.Given as goal

abbrev pub invariant-loop-p : goal.invariant-loop-p
invariant-loop-p l =
    Span l.nodes l.base l.base l.end × (l.base ≤ l.p) × (l.p ≤ l.end)
    × ((T : Calling l.nodes l.base l.fields l.params) → run (λ i. at40 i (tree_of T.view) T.entry) l.base (l.p - l.base) ≡ [])
    × ((T : CallWords l.nodes l.base l.builtin l.method) → run (λ i. at34 i (tree_of T.view)) l.base (l.p - l.base) ≡ [])
