-- `enter` meets its contract: three stores.
use Prim.Native.Nat.{ℕ}
use mathlib.Core.Path.{refl, ap}
use lib.ListN.{get_or, set}
use Rattle.resolve_overloads.proofs.Kept.enter.Goals as goal

pub returns : goal.returns
returns c = (ap (λ (x : ℕ). set c.args.self.now.heads x c.args.entry) c.slot-at.ensures.0, ap (λ (x : ℕ). set c.args.self.now.links c.args.entry (get_or c.args.self.now.heads x 0)) c.slot-at.ensures.0, refl)
