-- The three demands, each as one statement over what the entry points answer (specs/Answers, specs/Report): read this page first.
-- Proved in proofs/Demands, as `demand-1`, `demand-2` and `demand-3`. The bytes `s` of an image, `w` of a name, `o` of a list's buffer
-- and the rows `z` of a lent table are any lists. That an entry point ends on all of them and does nothing undefined holds of every
-- Rattle function. Each contract says by which definition it answers, on all inputs:
--   `typeck::refused`, `isonkaypu_refusal`             `refusal s`
--   `resolve`, `access`, `linear`, also for C          `pass_answer` of the pass
--   `verdicts`, `isonkaypu_verdicts`                   the three of them; `verdict_rows s`, twelve numbers
--   `is_state` and the two other questions, also for C `ask` of the test
--   `list`, also for C                                 `list_answer`, and in the buffer `list_buffer`
--   `resolve_list` and the two other parts, also for C `part_answer`, and in the buffer `part_words`
--   `linear_lent::linear`, `linear_lent::linear_here`  `pass_answer`, and in the table `lent_rows`
--   `render`                                           `report_text`
-- On refusal no lent image, name, list buffer or row has changed. What the C face writes to `place`, `from`, `to`, `yes`, `count` and
-- `numbers` are answers: on refusal zeros, beside the number.
use Rattle.std.specs.Prelude.{ℕ, ◌*◌, ◌<◌, ◌≤◌, ◌≡◌, Bool, true, false, ◌⊎◌, ◌↔◌, length, replicate}
use mathlib.Core.List.{List, [], ◌∷◌, ◌++◌, Memᴰ}
use Rattle.image.specs.Maxima.{max_rows}
use Rattle.image.specs.Admit.{refusal}
use Rattle.rules.specs.Tree.{Tree, tree}
use Rattle.rules.specs.Spelling.{bytes}
use Rattle.rules.specs.Record.{Rec}
use Rattle.rules.specs.Model.{StateName, is_state, DeclaredAsset, is_declared_asset, KnownAsset, is_known_asset}
use Rattle.rules.specs.All.{FullList, entry_of, InEntry}
use Rattle.rules.specs.Passes.{PassRules, resolving, accessing, linearity, of_pass, None, FirstOffence}
use Rattle.rules.specs.Names.{EqualNumbers}
use Rattle.rules.specs.Spans.{Unjudged}
use Rattle.rules.specs.Answers.{IsRefused, IsAdmitted, image_refused, accepted, refused_at, pass_answer, reply_refused, replied, ask, laid, list_refused, list_has, list_answer, list_buffer, part_answer, part_words, InTurn, lent_rows, row, verdict_rows}
use Rattle.rules.specs.Report.{report_words, rest, pass_line, record_lines, report_text}

-- of each pass; of each question about a name, with the fact that it asks for
abbrev pub EachPass : (PassRules → Type 0) → Type 0
EachPass P = P resolving × P accessing × P linearity

abbrev pub EachQuestion : ((Tree → List ℕ → Bool) → (Tree → List ℕ → Type 0) → Type 0) → Type 0
EachQuestion P = P is_state StateName × P is_declared_asset DeclaredAsset × P is_known_asset KnownAsset

-- r is a number that an image is refused by
abbrev pub Number : ℕ → Type 0
Number r = (1 ≤ r) × (r ≤ 8)

-- the image is admitted, and the buffer has fewer than four words for each offence
abbrev pub TooShort : List ℕ → List ℕ → Type 0
TooShort s o = IsAdmitted s × ((l : List Rec) × FullList (tree s) l × (length o < 4 * length l))

-- the report's lines of the passes, and what follows them
abbrev pub pass_lines : List ℕ → List ℕ → List ℕ
pass_lines s w =
    pass_line (bytes "resolve") (pass_answer resolving.part s)
    ++ (pass_line (bytes "access") (pass_answer accessing.part s)
    ++ (pass_line (bytes "linear") (pass_answer linearity.part s) ++ w))

-- Demand 1. A broken image is refused by a number from 1 to 8, and a list buffer that is too short by 9: an answer has that number
-- exactly then, and place, spans and record count are 0. No lent byte, word or row has changed: image and name are only read, and
-- buffer and table afterwards are what they were before. A part of the list that is called alone has no refusal 9.
pub record Demand1 : Type 1 where
  pub numbers : (s : List ℕ) → IsRefused s → Number (refusal s)
  pub pass : EachPass (λ p. (s : List ℕ) (r : ℕ) → Number r → ((pass_answer p.part s).number ≡ r) ↔ (refusal s ≡ r))
  pub pass_zeros : EachPass (λ p. (s : List ℕ) → IsRefused s → pass_answer p.part s ≡ image_refused (refusal s))
  pub question : EachQuestion (λ q Q. (s w : List ℕ) (r : ℕ) → Number r → ((ask q s w).number ≡ r) ↔ (refusal s ≡ r))
  pub question_zeros : EachQuestion (λ q Q. (s w : List ℕ) → IsRefused s → ask q s w ≡ reply_refused (refusal s))
  pub list : (s o : List ℕ) (r : ℕ) → Number r → ((list_answer s (length o)).number ≡ r) ↔ (refusal s ≡ r)
  pub list_zeros : (s o : List ℕ) → IsRefused s → (list_answer s (length o) ≡ list_refused (refusal s)) × (list_buffer s o ≡ o)
  pub short : (s o : List ℕ) → ((list_answer s (length o)).number ≡ 9) ↔ TooShort s o
  pub short_zeros : (s o : List ℕ) → TooShort s o → (list_answer s (length o) ≡ list_refused 9) × (list_buffer s o ≡ o)
  pub part : EachPass (λ p. (s : List ℕ) → (part_answer p.part s).number ≡ refusal s)
  pub part_zeros :
      EachPass (λ p. (s o : List ℕ) → IsRefused s
      → (part_answer p.part s ≡ list_refused (refusal s)) × (part_words p.part s o ≡ o))
  pub lent : {R : Type 0} (blank : R) (s : List ℕ) (z : List R) → IsRefused s → lent_rows blank s z ≡ z
  pub plain :
      (s : List ℕ) → IsRefused s
      → verdict_rows s ≡ row (image_refused (refusal s)) ++ row (image_refused (refusal s)) ++ row (image_refused (refusal s))
  pub text : (s : List ℕ) → IsRefused s → report_text s ≡ bytes "image" ++ rest (refusal s ∷ [])

-- Demand 2. On every admitted image each pass accepts exactly when none of its offences is there, and else gives the code, the place
-- and the span words of the first; each question about a name is answered yes or no exactly as the fact holds. Names are equal only
-- when their bytes are: two name numbers are equal exactly then. Span words are carried, never judged: images that
-- differ in them alone have the same refusal and the same tree, so that no answer differs but in the span words that it carries. A
-- table of rows that was lent is blank afterwards.
pub record Demand2 : Type 1 where
  pub accepts : EachPass (λ p. (s : List ℕ) → IsAdmitted s → (pass_answer p.part s ≡ accepted) ↔ None (tree s) p)
  pub refuses :
      EachPass (λ p. (s : List ℕ) → IsAdmitted s → (r : Rec) → FirstOffence (tree s) p r
      → pass_answer p.part s ≡ refused_at s r.code r.place)
  pub decided : EachPass (λ p. (s : List ℕ) → IsAdmitted s → None (tree s) p ⊎ ((r : Rec) × FirstOffence (tree s) p r))
  pub yes : EachQuestion (λ q Q. (s w : List ℕ) → IsAdmitted s → (ask q s w ≡ replied true) ↔ Q (tree s) w)
  pub no : EachQuestion (λ q Q. (s w : List ℕ) → IsAdmitted s → (ask q s w ≡ replied false) ↔ (Q (tree s) w → ⊥))
  pub names : EqualNumbers
  pub unjudged : Unjudged
  pub lent : {R : Type 0} (blank : R) (s : List ℕ) (z : List R) → IsAdmitted s → lent_rows blank s z ≡ replicate max_rows blank

-- Demand 3. An admitted image has a full list (specs/All: each offence of the passes, and nothing else, in the stated order), only
-- one, and each offence stands in it once. Given room, the list answers how many there are and lays them from the buffer's start, each
-- with the entry that contains its place, or 0; words past the last record keep their values. The list has none of a pass's offences
-- exactly when the pass accepts; else the first of them is the code and place that the pass refuses with. A pass's part of the list
-- counts all offences of the pass, and lays them from the buffer's start as far as it goes; the three parts, one after the other, are
-- the list. The report has a line for each pass and one for each offence, or says that the list has no room.
pub record Demand3 : Type 0 where
  pub full : (s : List ℕ) → IsAdmitted s → (l : List Rec) × FullList (tree s) l
  pub only : (s : List ℕ) → IsAdmitted s → (l m : List Rec) → FullList (tree s) l → FullList (tree s) m → l ≡ m
  pub once :
      (s : List ℕ) → IsAdmitted s → (a b : List Rec) (r : Rec) → FullList (tree s) (a ++ (r ∷ b))
      → (Memᴰ r a → ⊥) × (Memᴰ r b → ⊥)
  pub lists :
      (s o : List ℕ) → IsAdmitted s → (l : List Rec) → FullList (tree s) l → 4 * length l ≤ length o
      → (list_answer s (length o) ≡ list_has (length l)) × (list_buffer s o ≡ laid (entry_of (tree s)) o 0 l)
  pub entries : (s : List ℕ) → IsAdmitted s → (p e : ℕ) → (entry_of (tree s) p ≡ e) ↔ InEntry (tree s) p e
  pub accepts :
      EachPass (λ p. (s : List ℕ) → IsAdmitted s → (l : List Rec) → FullList (tree s) l
      → (pass_answer p.part s ≡ accepted) ↔ (of_pass p l ≡ []))
  pub refuses :
      EachPass (λ p. (s : List ℕ) → IsAdmitted s → (l : List Rec) → FullList (tree s) l
      → (r : Rec) (m : List Rec) → of_pass p l ≡ r ∷ m → pass_answer p.part s ≡ refused_at s r.code r.place)
  pub parts :
      EachPass (λ p. (s o : List ℕ) → IsAdmitted s → (l : List Rec) → FullList (tree s) l
      → (part_answer p.part s ≡ list_has (length (of_pass p l))) × (part_words p.part s o ≡ laid (entry_of (tree s)) o 0 (of_pass p l)))
  pub in_turn : InTurn
  pub text :
      (s : List ℕ) → IsAdmitted s → (l : List Rec) → FullList (tree s) l → 4 * length l ≤ report_words
      → report_text s ≡ pass_lines s (bytes "list" ++ (rest (length l ∷ []) ++ record_lines s l))
  pub text_short :
      (s : List ℕ) → IsAdmitted s → (l : List Rec) → FullList (tree s) l → report_words < 4 * length l
      → report_text s ≡ pass_lines s (bytes "list refused" ++ rest (9 ∷ []))
