-- `first_with` meets its contract: the verdict of the first record.
use borrow.Author.Rules.{rules}
use Rattle.passes.proofs.Laws.{judged-admitted}
use Rattle.passes.proofs.Lookups.{looked-of}
use Rattle.passes.proofs.first_with.Goals as goal

pub list_with-count-requires : goal.list_with-count-requires
list_with-count-requires c = looked-of c.requires

pub judge-requires : goal.judge-requires
judge-requires c = (c.requires.image, search rules)

pub returns : goal.returns
returns c = judged-admitted c.args.pass _ c.requires.image.admitted (c.judge.ensures _ _ (c.list_with-count.ensures.laid (looked-of c.requires)))
