-- A blank row of the table of tracked rows.
use Rattle.linear_table.specs.declared.Row.{Row}

-- a blank row, which also stands past the end. Node 0 is the contract, so no row has place 0.
abbrev pub blank_row : Row
blank_row = record { name = 0; place = 0; marks = 0; count = 0 }
