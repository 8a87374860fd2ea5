-- `put_all` meets its contract: byte by byte; the text that remains is what is left of the slice.
use lib.ListN.{drop_of_length-le}
use Rattle.signature.proofs.Laws.{goes_refl, goes-trans, goes-as, goes_end, byte-room, byte_step}
use Rattle.signature.proofs.put_all.Goals as goal

pub put-o-requires : goal.put-o-requires
put-o-requires c = byte-room c.loop-b.b-index c.args.src.now c.loop-b-test.true c.requires c.loop-b.invariant

pub loop-b-preserved : goal.loop-b-preserved
loop-b-preserved c = byte_step c.loop-b.b-index c.args.src.now c.loop-b-test.true c.loop-b.invariant c.put-o.ensures

pub loop-b-init : goal.loop-b-init
loop-b-init c = goes_refl

pub returns : goal.returns
returns c = goes_end (goes-trans c.loop-b.invariant (goes-as (drop_of_length-le c.args.src.now {i = c.loop-b.b-index} c.loop-b-test.false)))
