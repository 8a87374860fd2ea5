-- `emit_hit` meets its contract: no record, or one.
use mathlib.Core.Path.{sym, ap}
use Rattle.std.specs.Prelude.{ℕ, Option}
use Rattle.records.specs.Records.{hit_list}
use Rattle.records.proofs.Laws.{added-nothing, added-as}
use Rattle.records.proofs.emit_hit.Goals as goal

pub returns-in-None : goal.returns-in-None
returns-in-None c = added-nothing (λ _. ap (λ (h : Option ℕ). hit_list h c.args.code c.args.place) c.in-None.is)

pub returns-in-Some : goal.returns-in-Some
returns-in-Some c = added-as (λ _. sym (ap (λ (h : Option ℕ). hit_list h c.args.code c.args.place) c.in-Some.is)) c.emit.ensures
