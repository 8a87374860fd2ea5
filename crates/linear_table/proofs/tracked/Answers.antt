-- `tracked` meets its contract: the words are found, the tables made, then the entries follow.
use Rattle.nodes.proofs.Heads.{view_of, root-of}
use Rattle.linear.specs.Seen.{LookedWords}
use Rattle.linear.proofs.Fresh.{fresh-of, clear-all}
use Rattle.linear_table.proofs.Held.{holds-none}
use Rattle.linear_table.proofs.Made.{table-made}
use Rattle.linear_table.proofs.tracked.Goals.{in-Ok, in-Err}
use Rattle.linear_table.proofs.tracked.Goals as goal

pub mark_readers-requires : goal.mark_readers-requires
mark_readers-requires c = (_, c.requires.admitted, c.find_words-words.ensures)

pub entries-stopped-requires : goal.entries-stopped-requires
entries-stopped-requires c =
    let looked : LookedWords c.area-nodes.result.now c.find_words-words.result = let S = c.area-nodes.ensures in record { view = view_of S; root = root-of S; words_are = c.find_words-words.ensures } in
    (fresh-of c.new-tables.ensures looked c.asset_words-asset_words.ensures c.mark_readers.ensures, rw c.new-tables.ensures clear-all, holds-none)

pub returns : goal.returns
returns c =
    let looked : LookedWords c.area-nodes.result.now c.find_words-words.result = let S = c.area-nodes.ensures in record { view = view_of S; root = root-of S; words_are = c.find_words-words.ensures } in
    let K = c.entries-stopped.ensures (fresh-of c.new-tables.ensures looked c.asset_words-asset_words.ensures c.mark_readers.ensures) in
    elim c.match-stopped.branch [
      | in-Ok w ↦ rw w.table-is (table-made c.requires.admitted (rw w.in-Ok.is at K))
      | in-Err w ↦ rw w.table-is (table-made c.requires.admitted (rw w.in-Err.is at K))
    ]
