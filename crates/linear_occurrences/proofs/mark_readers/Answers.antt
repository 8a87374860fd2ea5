-- `mark_readers` meets its contract: the words one after another.
use Rattle.rules.specs.Words.{readers}
use Rattle.names.proofs.Marked.{number_small}
use Rattle.names.proofs.Several.{marked, marks-words}
use Rattle.linear_occurrences.proofs.mark_readers.Goals as goal

pub mark_number-requires : goal.mark_number-requires
mark_number-requires c = let P = c.requires in number_small P.1 P.2.methods_are.get_is

pub mark_number-requires-2 : goal.mark_number-requires-2
mark_number-requires-2 c = let P = c.requires in number_small P.1 P.2.methods_are.contains_is

pub mark_number-requires-3 : goal.mark_number-requires-3
mark_number-requires-3 c = let P = c.requires in number_small P.1 P.2.has_is

pub returns : goal.returns
unfolding marked
returns c = λ s e w M. marks-words readers (c.mark_number-3.ensures s _ _ e w.has_is (c.mark_number-2.ensures s _ _ e w.methods_are.contains_is (c.mark_number.ensures s _ _ e w.methods_are.get_is M)))
