-- `answer` meets its contract: the entry that holds the place, and what is answered of it.
use Rattle.nodes.proofs.Heads.{root-of, view_of}
use Rattle.why.proofs.Found.{no-entry, answer-no-lot}
use Rattle.why.proofs.answer.Goals as goal

pub entry_at-requires : goal.entry_at-requires
entry_at-requires c = let S = c.area-nodes.ensures in (view_of S, root-of S)

pub returns-in_default : goal.returns-in_default
returns-in_default c = let W = view_of c.area-nodes.ensures in answer-no-lot _ c.args.out.now c.args.place c.requires.admitted (no-entry W (rw c.in_default.is at (c.entry_at.ensures W)))

pub answer_entry-requires : goal.answer_entry-requires
answer_entry-requires c = let S = c.area-nodes.ensures in (record { view = view_of S; root = root-of S; words_are = c.find_words-words.ensures }, rw c.in-Some.is at (c.entry_at.ensures (view_of S)))

pub returns : goal.returns
returns c = let S = c.area-nodes.ensures in c.answer_entry.ensures (record { view = view_of S; root = root-of S; words_are = c.find_words-words.ensures }) (rw c.in-Some.is at (c.entry_at.ensures (view_of S)))
