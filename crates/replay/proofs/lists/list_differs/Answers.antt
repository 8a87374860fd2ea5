-- `list_differs` meets its contract: the words that it lends are zeros.
use borrow.Author.Rules.{rules}
use mathlib.Core.Path.{refl}
use Rattle.replay.proofs.Laws.{counts-as, fails-as, list-differs}
use Rattle.replay.proofs.lists.list_differs.Goals as goal

pub returns-clause-ok : goal.returns-clause-ok
returns-clause-ok g c =
    counts-as c.list_in.result (list-differs c.args.asked c.args.file.now c.args.part c.args.case.refusal c.args.image.now refl c.list_in.ensures.words_value c.blank-words.ensures.0) (search rules) c.list_in.ensures.value

pub returns-clause-err : goal.returns-clause-err
returns-clause-err g c =
    fails-as c.list_in.result (list-differs c.args.asked c.args.file.now c.args.part c.args.case.refusal c.args.image.now refl c.list_in.ensures.words_value c.blank-words.ensures.0) c.list_in.ensures.err
