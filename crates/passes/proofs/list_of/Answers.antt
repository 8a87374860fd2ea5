-- `list_of` meets its contract: the pass's list, with look-ups of its own.
use mathlib.Core.Path.{refl}
use Rattle.records.proofs.Laws.{added-by}
use Rattle.nodes.proofs.Heads.{root-of, view_of}
use Rattle.passes.proofs.Lookups.{looked-up, looked-of}
use Rattle.passes.proofs.list_of.Goals as goal

pub mark_state-requires : goal.mark_state-requires
mark_state-requires c = let S = c.area-nodes.ensures in (view_of S, root-of S)

pub list_with-requires : goal.list_with-requires
list_with-requires c = looked-of (looked-up c.requires c.area-nodes.ensures c.find_words-words.ensures c.mark_state.ensures)

pub returns : goal.returns
returns c = added-by (λ _. looked-of (looked-up c.requires c.area-nodes.ensures c.find_words-words.ensures c.mark_state.ensures)) (λ _. refl) c.list_with.ensures
