-- To be skipped by a reader: one step of the linear pass in a table of rows that it is lent: where the steps start, what each does to the
-- row at hand, and the state behind it.
use Rattle.std.specs.Prelude.{ℕ, ◌+◌, ◌*◌, ◌-◌, List, eqb, ltb, leb, get_or}
use Rattle.image.specs.Maxima.{max_rows}
use Rattle.image.specs.Pick.{pick}
use Rattle.linear_table.specs.declared.Row.{Row}
use Rattle.linear_table.specs.Table.{blank_row, row_in, alias_cell, refused_cell}
use Rattle.linear_steps.specs.declared.Found.{Found}
use Rattle.linear_steps.specs.declared.State.{State}
use Rattle.linear_steps.specs.declared.Turn.{Turn}

-- a row's 61 or 62, in front of what was found behind it
abbrev pub found_at : ℕ → ℕ → Found
found_at n p = record { number = n; place = p }

abbrev pub judge_row : Row → Found → Found
judge_row r f =
    pick (eqb r.place 0) f
    (pick (eqb (r.marks + r.count) 0) (found_at 61 r.place) (pick (ltb 1 (r.marks + r.count)) (found_at 62 r.place) f))

-- the state behind a step: the row before, or the last one again
abbrev pub row_before : ℕ → ℕ
row_before i = pick (eqb i 0) (max_rows - 1) (i - 1)

abbrev pub next_of : State → Found → State
next_of c f = record { at = row_before c.at; left = c.left - 1; found = f }

-- a step: the first 511 store the rows of the cells, the others judge what stands there, and blank it
unfoldable pub step_of : List ℕ → State → Row → Turn
step_of cells c r =
    pick (leb (max_rows + 1) c.left) (record { row = row_in cells c.at; state = next_of c c.found })
    (record { row = blank_row; state = next_of c (judge_row r c.found) })

-- where the steps start: a refused image has none; an alias is found behind all rows
abbrev pub state_with : ℕ → Found → State
state_with n f = record { at = max_rows - 1; left = n; found = f }

abbrev pub first_found : ℕ → Found
first_found a = pick (eqb a 0) (found_at 0 0) (found_at 60 a)

unfoldable pub start_of : List ℕ → State
start_of cells =
    pick (eqb (get_or cells refused_cell 0) 0) (state_with (2 * max_rows) (first_found (get_or cells alias_cell 0))) (state_with 0 (found_at (get_or cells refused_cell 0) 0))
