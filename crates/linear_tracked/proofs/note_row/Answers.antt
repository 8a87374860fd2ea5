-- `note_row` meets its contract: the row is noted for the number of the word.
use native.Mathlib.Omega.{arith}
use Rattle.nodes.proofs.Turns.{numbered}
use Rattle.linear_tracked.proofs.Filled.{note-word}
use Rattle.linear_tracked.proofs.note_row.Goals as goal

pub overflow_sub-i : goal.overflow_sub-i
overflow_sub-i c = let g = numbered c.requires.0 c.name-i.ensures in omega arith

pub offset_bounds-rows-i : goal.offset_bounds-rows-i
offset_bounds-rows-i c = let g = numbered c.requires.0 c.name-i.ensures in omega arith

pub bounds-rows-i : goal.bounds-rows-i
bounds-rows-i c = let g = numbered c.requires.0 c.name-i.ensures in omega arith

pub offset_bounds-rows-i-2 : goal.offset_bounds-rows-i-2
offset_bounds-rows-i-2 c = let g = numbered c.requires.0 c.name-i.ensures in omega arith

pub bounds-rows-i-2 : goal.bounds-rows-i-2
bounds-rows-i-2 c = let g = numbered c.requires.0 c.name-i.ensures in omega arith

pub returns : goal.returns
returns c = λ W F N. note-word W c.requires.0 c.args.note c.args.row N (c.name-i.ensures W) c.taken.ensures

pub name-i-requires : goal.name-i-requires
name-i-requires c = c.requires.0.here
