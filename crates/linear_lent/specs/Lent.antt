-- The linear pass in a table of rows that it is lent: what the public form promises of the verdict and of the rows.
use Rattle.std.specs.Prelude.{ℕ, ◌≡◌, List}
use Rattle.rules.specs.Linear.{linear}
use Rattle.rules.specs.Answers.{lent_rows}
use Rattle.typeck.specs.Face.{Verdict, Judged}
use Rattle.linear_table.specs.declared.Row.{Row}
use Rattle.linear_table.specs.Table.{blank_row}
pub use Rattle.linear_lent.specs.Steps.{ran, answered}
unfoldable pub use Rattle.linear_lent.specs.Steps.{drove}

-- The public form: the verdict of the pass; the rows as they were on refusal 1 to 8, else all blank
abbrev pub rows_after : List ℕ → List Row → List Row
rows_after s rows = lent_rows blank_row s rows

pub record JudgedIn (s : List ℕ) (rows : List Row) (v : Verdict) (rows' : List Row) : Type 0 where
  pub verdict : Judged linear s v
  pub rows_are : rows' ≡ rows_after s rows
