-- The report of document 01 as bytes: `image N` alone on refusal N; otherwise per pass a line (name, code, place, two span words), `list`
-- and the count (or `list refused 9`), per record a line: code, place, related, entry, two span words. The list buffer has 32,768
-- words.
use Rattle.std.specs.Prelude.{ℕ, zero, suc, ◌+◌, ◌/◌, ◌%◌, List, [], ◌∷◌, ◌++◌, ltb, eqb}
use Rattle.image.specs.Pick.{pick}
use Rattle.image.specs.Admit.{refusal}
use Rattle.rules.specs.Spelling.{bytes}
use Rattle.rules.specs.Tree.{tree}
use Rattle.rules.specs.Record.{Rec}
use Rattle.rules.specs.Resolve.{resolve}
use Rattle.rules.specs.Access.{access}
use Rattle.rules.specs.Linear.{linear}
use Rattle.rules.specs.All.{offences, entry_of}
use Rattle.rules.specs.Answers.{Answer, pass_answer, span_from, span_to, ListReply, list_answer}

-- so many words has the list's buffer
abbrev pub report_words : ℕ
report_words = 32768

-- n in decimal, with no zeros in front: one digit, or those of n / 10 and then the last; 20 are enough for 64 bits
unfoldable pub digits : ℕ → ℕ → List ℕ
digits zero n = []
digits (suc most) n = pick (ltb n 10) ((48 + n) ∷ []) (digits most (n / 10) ++ ((48 + n % 10) ∷ []))

abbrev pub decimal : ℕ → List ℕ
decimal n = digits 20 n

-- the rest of a line: a space and a number for each, then the newline
unfoldable pub rest : List ℕ → List ℕ
rest [] = 10 ∷ []
rest (n ∷ l) = 32 ∷ decimal n ++ rest l

-- the line of a pass
abbrev pub pass_line : List ℕ → Answer → List ℕ
pass_line name a = name ++ rest (a.number ∷ a.place ∷ a.from ∷ a.to ∷ [])

-- the line of a record
abbrev pub record_line : List ℕ → Rec → List ℕ
record_line s r =
    decimal r.code
    ++ rest (r.place ∷ r.related ∷ entry_of (tree s) r.place ∷ span_from s r.place ∷ span_to s r.place ∷ [])

unfoldable pub record_lines : List ℕ → List Rec → List ℕ
record_lines s [] = []
record_lines s (r ∷ l) = record_line s r ++ record_lines s l

-- the lines of the list
abbrev pub list_lines : List ℕ → ListReply → List ℕ
list_lines s a =
    pick (eqb a.number 0)
    (bytes "list" ++ (rest (a.records ∷ []) ++ record_lines s (offences (tree s))))
    (bytes "list refused" ++ rest (a.number ∷ []))

-- the whole text
unfoldable pub report_text : List ℕ → List ℕ
report_text s =
    pick (eqb (refusal s) 0)
    (pass_line (bytes "resolve") (pass_answer resolve s)
    ++ (pass_line (bytes "access") (pass_answer access s)
    ++ (pass_line (bytes "linear") (pass_answer linear s)
    ++ list_lines s (list_answer s report_words))))
    (bytes "image" ++ rest (refusal s ∷ []))
