-- `put_comma` meets its contract: nothing before the first.
use mathlib.Core.Path.{sym}
use Rattle.signature.proofs.Laws.{wrote_none, wrote_as, room_as}
use Rattle.signature.proofs.Types.{comma-first, comma-later}
use Rattle.signature.proofs.put_comma.Goals as goal

pub returns-then-i-start : goal.returns-then-i-start
returns-then-i-start c = wrote_none (sym (comma-first _ _ c.if-i-start.true))

pub put-requires : goal.put-requires
put-requires c = room_as (comma-later _ _ c.if-i-start.false) c.requires

pub returns : goal.returns
returns c = wrote_as (sym (comma-later _ _ c.if-i-start.false)) c.put.ensures
