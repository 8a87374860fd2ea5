-- The writer for a type calls the writer for its argument list, which calls it back; the levels that remain fall: twice as many for a type, one more for its arguments.
-- A walk from argument to argument; the text that remains is what is left of the arguments.
use Rattle.std.proofs.Common.{◌+◌, ◌*◌, ◌≤◌}
use Rattle.nodes.specs.Shown.{View, tree_of}
use Rattle.nodes.proofs.Iterated.{Over}
use Rattle.signature.specs.Texts.{args_from, Texts}
use Rattle.signature.proofs.Laws.{Goes}
use Rattle.signature.proofs.Types.{ChildAt}
use Rattle.signature.proofs.+types.Given as goal

abbrev pub decreases-write_args : goal.decreases-write_args
decreases-write_args l = 2 * l.levels + 1

abbrev pub decreases-write_type : goal.decreases-write_type
decreases-write_type l = 2 * l.levels

-- the arguments from y + 2 on end as those from the next one on do
abbrev pub invariant-write_args-loop-argument : goal.invariant-write_args-loop-argument
invariant-write_args-loop-argument l =
    let s = l.initial.argument-iterator in
    Over l.nodes l.base s.rest.end l.argument-iterator × (l.y + 2 ≤ l.argument-iterator.rest.at) × (l.argument-iterator.rest.at ≤ s.rest.end) × ((W : View l.nodes l.base) → ChildAt (tree_of W) l.y l.argument-iterator.rest.at)
    × ((T : Texts l.nodes l.base l.names l.text) → Goes l.initial.out l.at (args_from l.levels (tree_of T.view) l.y (l.y + 2)) l.out l.o (args_from l.levels (tree_of T.view) l.y l.argument-iterator.rest.at))
