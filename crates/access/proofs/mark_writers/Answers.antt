-- `mark_writers` meets its contract: the marks of the seven words, one after another.
use Rattle.rules.specs.Words.{writers}
use Rattle.names.proofs.Marked.{number_small}
use Rattle.names.proofs.Several.{marked, marks-words}
use Rattle.access.proofs.mark_writers.Goals as goal

pub returns : goal.returns
unfolding marked
returns c =
    λ s e N M.
    marks-words writers
    (c.mark_number-7.ensures s _ _ e N.set_is
    (c.mark_number-6.ensures s _ _ e N.remove_is
    (c.mark_number-5.ensures s _ _ e N.insert_is
    (c.mark_number-4.ensures s _ _ e N.debit_is
    (c.mark_number-3.ensures s _ _ e N.credit_is
    (c.mark_number-2.ensures s _ _ e N.split_is
    (c.mark_number.ensures s _ _ e N.merge_is M)))))))

pub mark_number-requires : goal.mark_number-requires
mark_number-requires c = number_small c.requires.1 c.requires.2.merge_is

pub mark_number-requires-2 : goal.mark_number-requires-2
mark_number-requires-2 c = number_small c.requires.1 c.requires.2.split_is

pub mark_number-requires-3 : goal.mark_number-requires-3
mark_number-requires-3 c = number_small c.requires.1 c.requires.2.credit_is

pub mark_number-requires-4 : goal.mark_number-requires-4
mark_number-requires-4 c = number_small c.requires.1 c.requires.2.debit_is

pub mark_number-requires-5 : goal.mark_number-requires-5
mark_number-requires-5 c = number_small c.requires.1 c.requires.2.insert_is

pub mark_number-requires-6 : goal.mark_number-requires-6
mark_number-requires-6 c = number_small c.requires.1 c.requires.2.remove_is

pub mark_number-requires-7 : goal.mark_number-requires-7
mark_number-requires-7 c = number_small c.requires.1 c.requires.2.set_is
