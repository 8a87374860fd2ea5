-- To be skipped by a reader: what all the steps of the linear pass give in a table of rows that it is lent.
use Rattle.std.specs.Prelude.{ℕ, zero, suc, List, set}
use Rattle.rules.specs.Answers.{Answer, span_from, span_to}
use Rattle.linear_table.specs.declared.Row.{Row}
use Rattle.linear_table.specs.Table.{nth_row}
use Rattle.linear_steps.specs.declared.Found.{Found}
use Rattle.linear_steps.specs.declared.State.{State}
use Rattle.linear_steps.specs.Step.{step_of, start_of}

-- k steps from the state c and the rows zs; all of them
unfoldable pub drove : List ℕ → ℕ → State → List Row → State × List Row
drove cells zero c zs = (c, zs)
drove cells (suc k) c zs = drove cells k (step_of cells c (nth_row zs c.at)).state (set zs c.at (step_of cells c (nth_row zs c.at)).row)

abbrev pub ran : List ℕ → List Row → State × List Row
ran cells zs = drove cells (start_of cells).left (start_of cells) zs

-- what was found, in document 01's numbers
abbrev pub answered : List ℕ → Found → Answer
answered s f = record { number = f.number; place = f.place; from = span_from s f.place; to = span_to s f.place }
