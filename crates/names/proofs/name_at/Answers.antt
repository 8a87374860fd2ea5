-- `name_at` meets its contract: the name lies between two offsets of the table.
use native.Mathlib.Omega.{arith}
use Prim.Native.Nat.{◌≤◌}
use lib.ListN.{length}
use Rattle.image.specs.Text.{slice}
use Rattle.nodes.proofs.Heads.{bounds}
use Rattle.names.proofs.Table.{lies, lies-there}
use Rattle.names.proofs.name_at.Goals as goal

pub returns : goal.returns
returns c =
    let P = c.requires in
    lies-there P.0 c.names_at-table.ensures c.text_at-texts.ensures P.1 c.offset-from.ensures.0 c.offset-to.ensures.0

pub names_at-table-requires : goal.names_at-table-requires
names_at-table-requires c = let h = bounds c.requires.0 in omega arith

pub text_at-texts-requires : goal.text_at-texts-requires
text_at-texts-requires c = let h = bounds c.requires.0 in (omega arith, omega arith)

pub slice_bounds-offset-count : goal.slice_bounds-offset-count
slice_bounds-offset-count c = let h = bounds c.requires.0 in omega arith

pub slice_bounds-offset-end : goal.slice_bounds-offset-end
slice_bounds-offset-end c = let h = bounds c.requires.0 in omega arith

pub slice_bounds-offset-count-2 : goal.slice_bounds-offset-count-2
slice_bounds-offset-count-2 c = let h = bounds c.requires.0 in omega arith

pub slice_bounds-offset-end-2 : goal.slice_bounds-offset-end-2
slice_bounds-offset-end-2 c = let h = bounds c.requires.0 in omega arith

pub slice_bounds-text-count : goal.slice_bounds-text-count
slice_bounds-text-count c = let h = bounds c.requires.0 in omega arith

pub slice_bounds-text-start : goal.slice_bounds-text-start
slice_bounds-text-start c = let h = bounds c.requires.0 in omega arith

pub slice_bounds-result-count : goal.slice_bounds-result-count
slice_bounds-result-count c =
    let held : (c.offset-from.result ≤ c.offset-to.result)
    × (c.offset-to.result ≤ length (slice c.args.image.now c.text_at-texts.result (length c.args.image.now))) = let P = c.requires in
    lies P.0 c.names_at-table.ensures c.text_at-texts.ensures P.1 c.offset-from.ensures.0 c.offset-to.ensures.0 in
    let h = held in omega arith

pub slice_bounds-result-start : goal.slice_bounds-result-start
slice_bounds-result-start c =
    let held : (c.offset-from.result ≤ c.offset-to.result)
    × (c.offset-to.result ≤ length (slice c.args.image.now c.text_at-texts.result (length c.args.image.now))) = let P = c.requires in
    lies P.0 c.names_at-table.ensures c.text_at-texts.ensures P.1 c.offset-from.ensures.0 c.offset-to.ensures.0 in
    let h = held in omega arith

pub slice_bounds-result-end : goal.slice_bounds-result-end
slice_bounds-result-end c =
    let held : (c.offset-from.result ≤ c.offset-to.result)
    × (c.offset-to.result ≤ length (slice c.args.image.now c.text_at-texts.result (length c.args.image.now))) = let P = c.requires in
    lies P.0 c.names_at-table.ensures c.text_at-texts.ensures P.1 c.offset-from.ensures.0 c.offset-to.ensures.0 in
    let h = held in omega arith
