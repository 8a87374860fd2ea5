-- `put_name` meets its contract: the part of the text between two offsets.
use Prim.Native.Nat.{ℕ}
use mathlib.Core.Path.{sym, ap₂}
use Rattle.image.specs.Text.{slice}
use Rattle.signature.proofs.Laws.{room_as, wrote_as}
use Rattle.signature.proofs.put_name.Goals as goal

pub put_all-requires : goal.put_all-requires
put_all-requires c = room_as (ap₂ (λ (a b : ℕ). slice c.args.text.now a b) (sym c.offset-lo.ensures.0) (sym c.offset-hi.ensures.0)) c.requires.4

pub returns : goal.returns
returns c = wrote_as (ap₂ (λ (a b : ℕ). slice c.args.text.now a b) c.offset-lo.ensures.0 c.offset-hi.ensures.0) c.put_all.ensures
