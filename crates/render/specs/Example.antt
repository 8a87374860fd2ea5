-- The example of document 01, P2: e(x: Q_Asset); node i has spans 10i and 10i + 1.
use Rattle.std.specs.Prelude.{ℕ, ◌≡◌, refl, List, [], ◌∷◌, ◌++◌}
use Prim.Native.String.{String}
use Rattle.rules.specs.Spelling.{bytes}
use Rattle.rules.specs.Packed.{image_of, a_contract, an_entry, a_param, a_type, a_name}
use Rattle.rules.specs.Outcome.{filled}
use Rattle.lines.specs.Line.{digits, rest}
use Rattle.render.specs.Report.{record_lines, report_text}

abbrev line : String → List ℕ
line w = bytes w ++ (10 ∷ [])

pub example :
    report_text (image_of (a_contract (a_name "c" ++ an_entry (a_name "e" ++ a_param (a_name "x" ++ a_type (a_name "Q_Asset"))))))
    ≡ line "resolve 0 0 0 0"
    ++ line "access 0 0 0 0"
    ++ line "linear 61 5 50 51"
    ++ line "list 1"
    ++ line "61 5 0 2 50 51"
unfolding image_of filled bytes digits rest record_lines report_text
example = refl

-- a refused image: no bytes at all
pub none : report_text [] ≡ line "image 1"
unfolding image_of filled bytes digits rest record_lines report_text
none = refl
