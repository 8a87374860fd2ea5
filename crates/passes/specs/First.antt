-- To be skipped by a reader: the records of each pass, and what a pass refuses with by a list of records: its first.
use Rattle.std.specs.Prelude.{List, ℕ, Option, None, Some}
use Rattle.rules.specs.Tree.{Tree}
use Rattle.rules.specs.Record.{Rec}
use Rattle.rules.specs.Resolve.{resolve}
use Rattle.rules.specs.Access.{access}
use Rattle.rules.specs.Linear.{linear}
use Rattle.rules.specs.Answers as rules
use Rattle.passes.specs.declared.Pass.{Pass}
use Rattle.passes.specs.declared.Pass.TheVariants as pass
use Rattle.passes.specs.declared.Offence.{Offence}

abbrev pub records_of : Pass → Tree → List Rec
records_of pass.Resolve = resolve
records_of pass.Access = access
records_of pass.Linear = linear

abbrev pub offence_at : List ℕ → Rec → Offence
offence_at s r = record { code = r.code; place = r.place; from = rules.span_from s r.place; to = rules.span_to s r.place }

abbrev pub verdict_by : List ℕ → List Rec → Option Offence
verdict_by s l = rules.by_first None (λ (r : Rec). Some (offence_at s r)) l
