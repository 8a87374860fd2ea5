-- `mark_builtins` meets its contract: one word after another.
use Rattle.rules.specs.Words.{builtins}
use Rattle.names.proofs.Several.{marked, marks-words}
use Rattle.names.proofs.Marked.{number_small}
use Rattle.resolve_calls.proofs.mark_builtins.Goals as goal

pub returns : goal.returns
unfolding marked
returns c =
    λ s e W M. marks-words builtins
    (c.mark_number-4.ensures s _ _ e W.mint_asset_is
    (c.mark_number-3.ensures s _ _ e W.mint_is
    (c.mark_number-2.ensures s _ _ e W.send_asset_is
    (c.mark_number.ensures s _ _ e W.send_is M))))

pub mark_number-requires : goal.mark_number-requires
mark_number-requires c = let P = c.requires in number_small P.1 P.2.send_is

pub mark_number-requires-2 : goal.mark_number-requires-2
mark_number-requires-2 c = let P = c.requires in number_small P.1 P.2.send_asset_is

pub mark_number-requires-3 : goal.mark_number-requires-3
mark_number-requires-3 c = let P = c.requires in number_small P.1 P.2.mint_is

pub mark_number-requires-4 : goal.mark_number-requires-4
mark_number-requires-4 c = let P = c.requires in number_small P.1 P.2.mint_asset_is
