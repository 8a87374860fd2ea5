-- The answers in document 01's numbers: of a pass, of a question about a name, of the full list and of a pass's part of it with their
-- buffer, of the rows that the linear pass is lent, and as plain numbers. Refusals 1 to 9 return their number with place, spans and
-- record count 0 and change no lent memory. Acceptance is 0, place 0, spans 0.
use Rattle.std.specs.Prelude.{ℕ, ◌+◌, ◌*◌, ◌≡◌, Bool, false, List, [], ◌∷◌, ◌++◌, ltb, eqb, length, replicate, take, drop}
use Rattle.std.proofs.lemmas.List.Edits.{sets}
use Rattle.image.specs.Maxima.{max_rows}
use Rattle.image.specs.Pick.{pick}
use Rattle.image.specs.Admit.{refusal, nodes_of}
use Rattle.image.specs.Node.{from_of, to_of}
use Rattle.rules.specs.Tree.{Tree, tree}
use Rattle.rules.specs.Record.{Rec}
use Rattle.rules.specs.Resolve.{resolve}
use Rattle.rules.specs.Access.{access}
use Rattle.rules.specs.Linear.{linear}
use Rattle.rules.specs.All.{offences, entry_of}

-- An image is refused by a number, or admitted

abbrev pub IsRefused : List ℕ → Type 0
IsRefused s = refusal s ≡ 0 → ⊥

abbrev pub IsAdmitted : List ℕ → Type 0
IsAdmitted s = refusal s ≡ 0

-- A pass

pub record Answer : Type 0 where
  pub number : ℕ
  pub place : ℕ
  pub from : ℕ
  pub to : ℕ

-- the span words of node i of an image
abbrev pub span_from : List ℕ → ℕ → ℕ
span_from s i = from_of (nodes_of s) i

abbrev pub span_to : List ℕ → ℕ → ℕ
span_to s i = to_of (nodes_of s) i

-- its cases: the image is refused; the pass accepts; it refuses with a code and a place
abbrev pub image_refused : ℕ → Answer
image_refused r = record { number = r; place = 0; from = 0; to = 0 }

abbrev pub accepted : Answer
accepted = record { number = 0; place = 0; from = 0; to = 0 }

abbrev pub refused_at : List ℕ → ℕ → ℕ → Answer
refused_at s c p = record { number = c; place = p; from = span_from s p; to = span_to s p }

-- by the first record of a list, or none
abbrev pub by_first : {A : Type 0} → A → (Rec → A) → List Rec → A
by_first none of [] = none
by_first none of (r ∷ l) = of r

-- a pass's verdict on an admitted image: it refuses by its first record, or accepts
abbrev pub verdict : List ℕ → List Rec → Answer
verdict s l = by_first accepted (λ r. refused_at s r.code r.place) l

-- where the image's refusal is r
abbrev pub unless_refused : ℕ → Answer → Answer
unless_refused r a = pick (eqb r 0) a (image_refused r)

unfoldable pub pass_answer : (Tree → List Rec) → List ℕ → Answer
pass_answer pass s = unless_refused (refusal s) (verdict s (pass (tree s)))

-- A question about a name: any bytes; yes, no, or refusal 1 to 8

pub record NameReply : Type 0 where
  pub number : ℕ
  pub yes : Bool

abbrev pub reply_refused : ℕ → NameReply
reply_refused r = record { number = r; yes = false }

abbrev pub replied : Bool → NameReply
replied b = record { number = 0; yes = b }

unfoldable pub ask : (Tree → List ℕ → Bool) → List ℕ → List ℕ → NameReply
ask question s w = pick (eqb (refusal s) 0) (replied (question (tree s) w)) (reply_refused (refusal s))

-- The list

-- a record is four words: code, place, related, and the entry that contains the place, where e gives the entry of each node
abbrev pub words : (ℕ → ℕ) → List Rec → List ℕ
words e [] = []
words e (r ∷ l) = r.code ∷ r.place ∷ r.related ∷ e r.place ∷ words e l

-- the buffer o with the records l from the k-th record's place on; what does not fit is not written, all else keeps its value
abbrev pub laid : (ℕ → ℕ) → List ℕ → ℕ → List Rec → List ℕ
laid e o k l = sets o (4 * k) (words e l)

pub record ListReply : Type 0 where
  pub number : ℕ
  pub records : ℕ

abbrev pub list_refused : ℕ → ListReply
list_refused r = record { number = r; records = 0 }

abbrev pub list_has : ℕ → ListReply
list_has k = record { number = 0; records = k }

-- 9: its buffer has fewer than 4 words per offence
unfoldable pub list_answer : List ℕ → ℕ → ListReply
list_answer s size =
    let k = length (offences (tree s)) in
    pick (eqb (refusal s) 0)
    (pick (ltb size (4 * k)) (list_refused 9) (list_has k))
    (list_refused (refusal s))

-- the buffer afterwards: as it was on refusal, else with the records; words past the last record keep their values
unfoldable pub list_buffer : List ℕ → List ℕ → List ℕ
list_buffer s o = pick (eqb (list_answer s (length o)).number 0) (laid (entry_of (tree s)) o 0 (offences (tree s))) o

-- A pass's part of the list. Each pass writes its records into the rest of the buffer from where the last one stopped: of an admitted
-- image, how many it counts, and what it makes of that rest

abbrev pub part_count : (Tree → List Rec) → List ℕ → ℕ
part_count pass s = length (pass (tree s))

abbrev pub part_buffer : (Tree → List Rec) → List ℕ → List ℕ → List ℕ
part_buffer pass s o = laid (entry_of (tree s)) o 0 (pass (tree s))

-- Called alone it counts all its records and has no refusal 9: those that fit are written from the buffer's start.
unfoldable pub part_answer : (Tree → List Rec) → List ℕ → ListReply
part_answer pass s = pick (eqb (refusal s) 0) (list_has (part_count pass s)) (list_refused (refusal s))

unfoldable pub part_words : (Tree → List Rec) → List ℕ → List ℕ → List ℕ
part_words pass s o = pick (eqb (refusal s) 0) (part_buffer pass s o) o

-- the buffer o with what f makes of the rest of it after k records
abbrev pub on_rest : ℕ → (List ℕ → List ℕ) → List ℕ → List ℕ
on_rest k f o = take (4 * k) o ++ f (drop (4 * k) o)

-- so the three parts, one after the other, are the whole list
abbrev pub InTurn : Type 0
InTurn =
    (s o : List ℕ)
    → laid (entry_of (tree s)) o 0 (offences (tree s))
    ≡ on_rest (part_count resolve s + part_count access s) (part_buffer linear s)
    (on_rest (part_count resolve s) (part_buffer access s) (part_buffer resolve s o))

-- A table of tracked rows that the linear pass is lent by its public form, always 511 long: as it was on refusal 1 to 8, else all blank
abbrev pub lent_rows : {R : Type 0} → R → List ℕ → List R → List R
lent_rows blank s rows = pick (eqb (refusal s) 0) (replicate max_rows blank) rows

-- A verdict as plain numbers: its number, its place and the place's two span words; those of all passes
abbrev pub row : Answer → List ℕ
row a = a.number ∷ a.place ∷ a.from ∷ a.to ∷ []

abbrev pub verdict_rows : List ℕ → List ℕ
verdict_rows s = row (pass_answer resolve s) ++ row (pass_answer access s) ++ row (pass_answer linear s)
