-- `answer_row` meets its contract: the words are counted first, and written where there is room.
use Rattle.nodes.specs.Shown.{tree_of}
use Rattle.lot_words.specs.Told.{row_node}
use Rattle.why.proofs.Found.{answer-short, answer-told}
use Rattle.why.proofs.answer_row.Goals as goal

pub tell_row-asked-requires : goal.tell_row-asked-requires
tell_row-asked-requires c = c.requires

pub returns-then-size-asked : goal.returns-then-size-asked
returns-then-size-asked c =
    let g = c.args in
    let l = c.if-size-asked.true in
    let q = c.tell_row-asked.ensures.0 in
    λ T p r. answer-short T.view.image g.out.now p T.view.shown.admitted g.entry (row_node (tree_of T.view) g.entry g.row) r (q T) l

pub tell_row-requires : goal.tell_row-requires
tell_row-requires c = c.requires

pub returns : goal.returns
returns c =
    let g = c.args in
    let l = c.if-size-asked.false in
    let q = c.tell_row-asked.ensures.0 in
    let w = c.tell_row.ensures.0 in
    λ T p r. answer-told T.view.image g.out.now p T.view.shown.admitted g.entry (row_node (tree_of T.view) g.entry g.row) r (q T) l (w T)
