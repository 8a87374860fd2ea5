-- What is recorded, when an answer is the recorded one, and how many of what was recorded differ from what is given.
use Rattle.std.specs.Prelude.{ℕ, zero, suc, ◌+◌, ◌*◌, ◌-◌, ◌≤◌, Bool, not, List, eqb, leb, length, get_or}
use Rattle.image.specs.Pick.{pick, both, count}
use Rattle.image.specs.Node.{half, full_word}
use Rattle.recording.specs.declared.tell.Numbers.{Numbers}
use Rattle.recording.specs.declared.list.Part.{Part}
use Rattle.recording.specs.declared.list.Parts.{Parts}

abbrev pub numbers : ℕ → ℕ → ℕ → ℕ → ℕ → ℕ → Numbers
numbers a b c d e f = record { 0 = a; 1 = b; 2 = c; 3 = d; 4 = e; 5 = f }

-- the two are the same, number by number
abbrev pub alike : Numbers → Numbers → Bool
alike a b = both (eqb a.0 b.0) (both (eqb a.1 b.1) (both (eqb a.2 b.2) (both (eqb a.3 b.3) (both (eqb a.4
    b.4) (eqb a.5 b.5)))))

-- 1 where they are not
abbrev pub difference : Numbers → Numbers → ℕ
difference a b = pick (alike a b) 0 1

-- A record is four words, code, place, related and entry, each of two bytes in a file
abbrev pub record_words : ℕ
record_words = 4

abbrev pub record_bytes : ℕ
record_bytes = 2 * record_words

-- What stands in the file s at `at`, by recorded/README.md: the verdict of a pass; the answer to a question; a record of a list
-- whose refusal and number of records are those of `head`
abbrev pub verdict_at : List ℕ → ℕ → ℕ → Numbers
verdict_at s at refusal = numbers refusal (half s at) (half s (at + 2)) (full_word s (at + 4)) (full_word s (at + 8)) 0

abbrev pub reply_at : List ℕ → ℕ → ℕ → Numbers
reply_at s at refusal = numbers refusal (get_or s at 0) 0 0 0 0

abbrev pub record_at : List ℕ → ℕ → Numbers → Numbers
record_at s at head = numbers head.0 head.1 (half s at) (half s (at + 2)) (half s (at + 4)) (half s (at + 6))

-- the record that stands at k in the words w of an answer
abbrev pub record_in : List ℕ → ℕ → Numbers → Numbers
record_in w k head = numbers head.0 head.1 (get_or w k 0) (get_or w (k + 1) 0) (get_or w (k + 2) 0) (get_or w (k + 3) 0)

-- A part of a recorded list lies within the file
abbrev pub Within : List ℕ → Part → Type 0
Within s part = part.at + record_bytes * part.count ≤ length s

-- its refusal and number of records
abbrev pub head_of : ℕ → ℕ → Numbers
head_of refusal n = numbers refusal n 0 0 0 0

-- its record i is another one than the answer's
abbrev pub other_record : List ℕ → ℕ → Numbers → List ℕ → ℕ → Bool
other_record s at head w i = not (alike (record_at s (at + record_bytes * i) head) (record_in w (record_words * i) head))

-- how many of its first n records are
abbrev pub other_records : List ℕ → ℕ → Numbers → List ℕ → ℕ → ℕ
other_records s at head w n = count (other_record s at head w) n

-- how many of what it has differ from an answer and its words: 1 for refusal and number, and 1 for each record
abbrev pub list_differences : ℕ → List ℕ → Part → Numbers → List ℕ → ℕ
list_differences refusal s part answer w =
    difference (head_of refusal part.count) answer + other_records s part.at (head_of refusal part.count) w part.count

-- how many of the n records from `at` on come before the first whose code is not below `code`
unfoldable pub run_below : List ℕ → ℕ → ℕ → ℕ → ℕ
run_below s at code zero = 0
run_below s at code (suc n) = pick (leb code (half s at)) 0 (suc (run_below s (at + record_bytes) code n))

-- each pass's part of the n records from `at` on: codes below 50 are resolve's, from there to 59 access's, and the rest linear's
abbrev pub part_of : ℕ → ℕ → Part
part_of a n = record { at = a; count = n }

abbrev pub parts_from : ℕ → ℕ → ℕ → ℕ → Parts
parts_from at n a b = record {
  resolve = part_of at a;
  access = part_of (at + record_bytes * a) b;
  linear = part_of (at + record_bytes * a + record_bytes * b) (n - a - b);
}

abbrev pub parts_of : List ℕ → ℕ → ℕ → Parts
parts_of s at n = parts_from at n (run_below s at 50 n) (run_below s (at + record_bytes * run_below s at 50 n) 60 (n - run_below s at 50 n))
