-- The report's text is that of `rules` (specs/Report); here what it is made of.
use Rattle.std.specs.Prelude.{ℕ, ◌+◌, ◌*◌, List, [], ◌∷◌, ◌++◌, get_or}
use Rattle.rules.specs.Answers.{span_from, span_to}
use Rattle.rules.specs.Report.{decimal, rest}
unfoldable pub use Rattle.rules.specs.Report.{record_lines, report_text}
pub use Rattle.rules.specs.Report.{pass_line, record_line, list_lines}

-- the line of a record by its words; of the i-th record of a buffer
abbrev pub line_of : List ℕ → ℕ → ℕ → ℕ → ℕ → List ℕ
line_of s code place related entry = decimal code ++ rest (place ∷ related ∷ entry ∷ span_from s place ∷ span_to s place ∷ [])

abbrev pub line_at : List ℕ → List ℕ → ℕ → List ℕ
line_at s words i = line_of s (get_or words (4 * i) 0) (get_or words (4 * i + 1) 0) (get_or words (4 * i + 2) 0) (get_or words (4 * i + 3) 0)
