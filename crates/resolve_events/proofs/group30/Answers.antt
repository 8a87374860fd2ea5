-- `group30` meets its contract: the last event of each name, then the entries, then each Genesis.
use native.Mathlib.Omega.{arith}
use mathlib.Core.Path.{refl}
use Rattle.rules.specs.Sweep.{has}
use Rattle.rules.specs.Resolve.{group30}
use Rattle.records.proofs.Laws.{added-by, added-join}
use Rattle.resolve_events.proofs.Lent.{events-of}
use Rattle.resolve_events.proofs.group30.Goals as goal

pub note_events-requires : goal.note_events-requires
note_events-requires c = (c.requires.0, c.requires.1, c.requires.3.no_event)

pub emits-total-requires : goal.emits-total-requires
unfolding has
emits-total-requires c = (events-of c.requires.0 c.requires.1 c.note_events.ensures, refl, let l = c.requires.2 in omega arith)

pub genesis_emits-requires : goal.genesis_emits-requires
genesis_emits-requires c =
    let P = c.requires in
    let l = P.2 in
    let f = c.emits-total.ensures.few in
    (events-of P.0 P.1 c.note_events.ensures, omega arith, P.3.no_genesis)

pub returns : goal.returns
unfolding group30
returns c =
    let i = c.requires.1 in
    let f = c.note_events.ensures in
    added-join (added-by (λ W. events-of W i f) (λ W. refl) c.emits-total.ensures) (added-by (λ W. events-of W i f) (λ W. refl) c.genesis_emits.ensures)
