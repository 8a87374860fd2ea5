-- `list` meets its contract: the tables are made, then the entries follow.
use mathlib.Core.Path.{refl}
use Rattle.records.proofs.Laws.{added-by}
use Rattle.linear.proofs.Fresh.{fresh-of, clear-all}
use Rattle.linear.proofs.list.Goals as goal

pub mark_readers-requires : goal.mark_readers-requires
mark_readers-requires c = let T = c.requires in (_, T.view.shown.admitted, T.words_are)

pub entries-requires : goal.entries-requires
entries-requires c = (fresh-of c.new-tables.ensures c.requires c.asset_words-asset_words.ensures c.mark_readers.ensures, rw c.new-tables.ensures clear-all)

pub returns : goal.returns
returns c = added-by (λ T. fresh-of c.new-tables.ensures T c.asset_words-asset_words.ensures c.mark_readers.ensures) (λ T. refl) c.entries.ensures
