-- `write_params` meets its contract: a walk from parameter to parameter; the text that remains is what is left of the parameters.
use Prim.Native.Nat.{◌+◌, ◌≤◌}
use Rattle.nodes.specs.Shown.{View, tree_of}
use Rattle.nodes.proofs.Iterated.{Over}
use Rattle.signature.specs.Texts.{params_from, Texts}
use Rattle.signature.proofs.Laws.{Goes}
use Rattle.signature.proofs.Types.{AtParams}
use Rattle.signature.proofs.write_params.Given as goal

abbrev pub invariant-loop-param : goal.invariant-loop-param
invariant-loop-param l =
    let s = l.initial.param-iterator in
    Over l.nodes l.base s.rest.end l.param-iterator × (l.e + 2 ≤ l.param-iterator.rest.at) × (l.param-iterator.rest.at ≤ s.rest.end) × ((W : View l.nodes l.base) → AtParams W.image W.shown.admitted l.e l.param-iterator.rest.at)
    × ((T : Texts l.nodes l.base l.names l.text) → Goes l.initial.out l.at (params_from (tree_of T.view) l.e (l.e + 2)) l.out l.o (params_from (tree_of T.view) l.e l.param-iterator.rest.at))
