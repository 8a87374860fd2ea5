-- `group23` meets its contract: if no name is repeated there is nothing to compare.
use Rattle.records.proofs.Laws.{added-nothing}
use Rattle.resolve_overloads.proofs.Sought.{seen_none}
use Rattle.resolve_overloads.proofs.group23.Goals as goal

pub repeats-requires : goal.repeats-requires
repeats-requires c = (record { view = c.requires.0; marks = seen_none c.requires.0 }, c.requires.1)

pub returns-then-not-repeats : goal.returns-then-not-repeats
returns-then-not-repeats c = added-nothing (λ W. c.repeats.ensures (record { view = W; marks = seen_none W }) c.if-not-repeats.true)
