-- `mark_methods` meets its contract: one word after another.
use Rattle.rules.specs.Words.{methods}
use Rattle.names.proofs.Several.{marked, marks-words}
use Rattle.names.proofs.Marked.{number_small}
use Rattle.resolve_calls.proofs.mark_methods.Goals as goal

pub returns : goal.returns
unfolding marked
returns c =
    λ s e W M. marks-words methods
    (c.mark_number-9.ensures s _ _ e W.credit_is
    (c.mark_number-8.ensures s _ _ e W.debit_is
    (c.mark_number-7.ensures s _ _ e W.insert_is
    (c.mark_number-6.ensures s _ _ e W.merge_is
    (c.mark_number-5.ensures s _ _ e W.remove_is
    (c.mark_number-4.ensures s _ _ e W.set_is
    (c.mark_number-3.ensures s _ _ e W.split_is
    (c.mark_number-2.ensures s _ _ e W.contains_is
    (c.mark_number.ensures s _ _ e W.get_is M)))))))))

pub mark_number-requires : goal.mark_number-requires
mark_number-requires c = let P = c.requires in number_small P.1 P.2.get_is

pub mark_number-requires-2 : goal.mark_number-requires-2
mark_number-requires-2 c = let P = c.requires in number_small P.1 P.2.contains_is

pub mark_number-requires-3 : goal.mark_number-requires-3
mark_number-requires-3 c = let P = c.requires in number_small P.1 P.2.split_is

pub mark_number-requires-4 : goal.mark_number-requires-4
mark_number-requires-4 c = let P = c.requires in number_small P.1 P.2.set_is

pub mark_number-requires-5 : goal.mark_number-requires-5
mark_number-requires-5 c = let P = c.requires in number_small P.1 P.2.remove_is

pub mark_number-requires-6 : goal.mark_number-requires-6
mark_number-requires-6 c = let P = c.requires in number_small P.1 P.2.merge_is

pub mark_number-requires-7 : goal.mark_number-requires-7
mark_number-requires-7 c = let P = c.requires in number_small P.1 P.2.insert_is

pub mark_number-requires-8 : goal.mark_number-requires-8
mark_number-requires-8 c = let P = c.requires in number_small P.1 P.2.debit_is

pub mark_number-requires-9 : goal.mark_number-requires-9
mark_number-requires-9 c = let P = c.requires in number_small P.1 P.2.credit_is
