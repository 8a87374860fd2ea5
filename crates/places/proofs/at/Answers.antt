-- `at` meets its contract: what the table notes for the number of the word.
use borrow.Author.Rules.{rules}
use native.Mathlib.Omega.{arith}
use mathlib.Core.Path.{◌∙◌, ap}
use Prim.Native.Nat.{ℕ, ◌-◌}
use lib.ListN.{get_or}
use Rattle.nodes.proofs.Parts.{tells}
use Rattle.nodes.proofs.Turns.{numbered, carries-in}
use Rattle.places.proofs.at.Goals as goal

pub overflow_sub-x : goal.overflow_sub-x
overflow_sub-x c = let g = numbered c.requires c.name-x.ensures in omega arith

pub offset_bounds-places-x : goal.offset_bounds-places-x
offset_bounds-places-x c = let g = numbered c.requires c.name-x.ensures in omega arith

pub bounds-places-x : goal.bounds-places-x
bounds-places-x c = let g = numbered c.requires c.name-x.ensures in omega arith

pub returns : goal.returns
returns c = (search rules, λ W F N. c.from.ensures ∙ ap (λ (x : ℕ). get_or c.args.places.now (x - 1) 0) (c.name-x.ensures W) ∙ tells W c.requires.here N (carries-in W c.requires))
