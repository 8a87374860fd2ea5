-- `list_after` meets its contract: the pass's own list, in the rest of the buffer.
use native.Mathlib.Omega.{arith}
use mathlib.Core.Path.{refl}
use Rattle.rules.specs.Tree.{tree}
use Rattle.rules.specs.All.{entry_of}
use Rattle.passes.proofs.Laws.{added-rest}
use Rattle.passes.proofs.list_after.Goals as goal

pub overflow_add-result : goal.overflow_add-result
overflow_add-result c = let n = (c.list_of-more.ensures.laid tt).count in let h = c.requires.1 in omega arith

pub returns : goal.returns
returns c = added-rest (entry_of (tree c.args.image.now)) c.args.words.now c.args.count _ _ refl refl c.requires.1 c.list_of-more.ensures
