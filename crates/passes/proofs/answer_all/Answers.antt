-- `answer_all` meets its contract: one look-up, then each pass.
use Rattle.nodes.proofs.Heads.{root-of, view_of}
use Rattle.passes.proofs.Lookups.{looked-up}
use Rattle.passes.proofs.answer_all.Goals as goal

pub mark_state-requires : goal.mark_state-requires
mark_state-requires c = let S = c.area-nodes.ensures in (view_of S, root-of S)

pub first_with-resolve-requires : goal.first_with-resolve-requires
first_with-resolve-requires c = looked-up c.requires c.area-nodes.ensures c.find_words-words.ensures c.mark_state.ensures

pub first_with-access-requires : goal.first_with-access-requires
first_with-access-requires c = looked-up c.requires c.area-nodes.ensures c.find_words-words.ensures c.mark_state.ensures

pub first_with-linear-requires : goal.first_with-linear-requires
first_with-linear-requires c = looked-up c.requires c.area-nodes.ensures c.find_words-words.ensures c.mark_state.ensures

pub returns : goal.returns
returns c = (c.first_with-resolve.ensures, c.first_with-access.ensures, c.first_with-linear.ensures)
