-- What `replay` counts: how many of the recorded answers are not those that the public face gives by its contracts.
-- f is the file, `at` a place in it, n the recorded refusal of an image, s the image.
use Rattle.std.specs.Prelude.{ℕ, zero, suc, ◌+◌, ◌*◌, ◌-◌, Bool, true, false, List, ◌++◌, eqb, ltb, length, get_or, replicate, take, drop, Option, Some, None, Result, Ok, Err}
use Rattle.image.specs.Pick.{pick}
use Rattle.image.specs.Node.{full_word}
use Rattle.image.specs.Admit.{refusal}
use Rattle.rules.specs.Tree.{Tree}
use Rattle.rules.specs.Vocabulary.{Rec}
use Rattle.rules.specs.Resolve.{resolve}
use Rattle.rules.specs.Access.{access}
use Rattle.rules.specs.Linear.{linear}
use Rattle.rules.specs.Model.{is_state, is_declared_asset, is_known_asset}
use Rattle.rules.specs.Answers.{pass_answer, ask, list_answer, list_buffer}
use Rattle.image.specs.Refusals.{number_of}
use Rattle.image.specs.declared.Refusal.{Refusal}
use Rattle.typeck.specs.declared.Unlisted.{Unlisted}
use Rattle.typeck.specs.Face.{Verdict, verdict_of, reply_of, one_of, unlisted_by, listed_of, part_answer, part_words}
use Rattle.recording.specs.declared.tell.Numbers.{Numbers}
use Rattle.recording.specs.declared.list.Part.{Part}
use Rattle.recording.specs.declared.list.Parts.{Parts}
use Rattle.recording.specs.Told.{numbers, difference, record_words, record_bytes, verdict_at, reply_at, head_of}
use Rattle.recording.specs.Told.{list_differences, part_of, parts_of}
use Rattle.replay.specs.declared.ask.Asked.{Asked}
use Rattle.replay.specs.declared.ask.Asked.TheVariants as asked
use Rattle.replay.specs.declared.Step.{Step}

-- The answers as numbers
abbrev pub of_verdict : Verdict → Numbers
of_verdict (Err r) = numbers (number_of r) 0 0 0 0 0
of_verdict (Ok None) = numbers 0 0 0 0 0 0
of_verdict (Ok (Some o)) = numbers 0 o.code o.place o.from o.to 0

abbrev pub of_reply : Result Bool Refusal → Numbers
of_reply (Err r) = numbers (number_of r) 0 0 0 0 0
of_reply (Ok b) = numbers 0 (one_of b) 0 0 0 0

abbrev pub of_listed : Result ℕ Unlisted → Numbers
of_listed (Err r) = numbers (unlisted_by r) 0 0 0 0 0
of_listed (Ok k) = numbers 0 k 0 0 0 0

-- The refusal; a pass, and the three of them
abbrev pub refusal_difference : ℕ → List ℕ → ℕ
refusal_difference n s = difference (head_of n 0) (head_of (refusal s) 0)

unfoldable pub pass_difference : (Tree → List Rec) → List ℕ → ℕ → ℕ → List ℕ → ℕ
pass_difference pass f at n s = difference (verdict_at f at n) (of_verdict (verdict_of (pass_answer pass s)))

abbrev pub verdict_differences : List ℕ → ℕ → ℕ → List ℕ → ℕ
verdict_differences f at n s =
    pass_difference resolve f at n s + pass_difference access f (at + 12) n s + pass_difference linear f (at + 24) n s

abbrev pub pass_differences : List ℕ → ℕ → ℕ → List ℕ → ℕ
pass_differences f at n s =
    refusal_difference n s + pass_difference resolve f at n s + pass_difference access f (at + 12) n s
    + pass_difference linear f (at + 24) n s

-- A question about the name w, and the three of them
unfoldable pub question_difference : (Tree → List ℕ → Bool) → List ℕ → ℕ → ℕ → List ℕ → List ℕ → ℕ
question_difference asked f at n s w = difference (reply_at f at n) (of_reply (reply_of (ask asked s w)))

abbrev pub question_differences : List ℕ → ℕ → ℕ → List ℕ → List ℕ → ℕ
question_differences f at n s w =
    question_difference is_state f at n s w + question_difference is_declared_asset f (at + 1) n s w
    + question_difference is_known_asset f (at + 2) n s w

-- A list that is asked for with `size` words: what is answered, the numbers of that, the words afterwards, those of a longer buffer
abbrev pub listed_for : Asked → List ℕ → ℕ → Result ℕ Unlisted
listed_for asked.Whole s size = listed_of (list_answer s size)
listed_for asked.Resolve s size = listed_of (part_answer resolve s)
listed_for asked.Access s size = listed_of (part_answer access s)
listed_for asked.Linear s size = listed_of (part_answer linear s)

abbrev pub list_numbers : Asked → List ℕ → ℕ → Numbers
list_numbers asked s size = of_listed (listed_for asked s size)

abbrev pub words_for : Asked → List ℕ → List ℕ → List ℕ
words_for asked.Whole s w = list_buffer s w
words_for asked.Resolve s w = part_words resolve s w
words_for asked.Access s w = part_words access s w
words_for asked.Linear s w = part_words linear s w

abbrev pub words_in : Asked → List ℕ → ℕ → List ℕ → List ℕ
words_in asked s size w = words_for asked s (take size w) ++ drop size w

unfoldable pub zeros : List ℕ
zeros = replicate 225000 0

-- a list asked for with room for the recorded records and no more; with one word less; all of them
unfoldable pub list_difference : Asked → List ℕ → Part → ℕ → List ℕ → ℕ
list_difference asked f part n s =
    list_differences n f part (list_numbers asked s (record_words * part.count)) (words_in asked s (record_words * part.count) zeros)

unfoldable pub short_difference : ℕ → List ℕ → ℕ
short_difference k s = pick (eqb k 0) 0 (difference (head_of 9 0) (list_numbers asked.Whole s (record_words * k - 1)))

abbrev pub parts_differences : Parts → List ℕ → ℕ → List ℕ → ℕ
parts_differences parts f n s =
    list_difference asked.Resolve f parts.resolve n s + list_difference asked.Access f parts.access n s
    + list_difference asked.Linear f parts.linear n s

abbrev pub lists_by : Parts → List ℕ → Part → ℕ → List ℕ → ℕ
lists_by parts f whole n s =
    list_difference asked.Whole f whole n s + short_difference whole.count s
    + list_difference asked.Resolve f parts.resolve n s + list_difference asked.Access f parts.access n s
    + list_difference asked.Linear f parts.linear n s

unfoldable pub lists_differences : List ℕ → ℕ → ℕ → ℕ → List ℕ → ℕ
lists_differences f at k n s = lists_by (parts_of f at k) f (part_of at k) n s

-- Where the reading goes on, and how many differences there were; or the answers end too early
abbrev pub step_to : ℕ → ℕ → Option Step
step_to a d = Some (record { at = a; differ = d })

abbrev pub ends_early : Option Step
ends_early = None

-- whether the answers are whole; where they are not, the place and the number of differences are 0
abbrev pub whole : Option Step → Bool
whole None = false
whole (Some r) = true

abbrev pub place_of : Option Step → ℕ
place_of None = 0
place_of (Some r) = r.at

abbrev pub differ_of : Option Step → ℕ
differ_of None = 0
differ_of (Some r) = r.differ

-- a step, and d differences before it
abbrev pub after : ℕ → Option Step → Option Step
after d None = None
after d (Some r) = step_to r.at (d + r.differ)

-- k steps from `at` on, each from where the last one stopped, with d differences before them
unfoldable pub steps : (ℕ → Option Step) → ℕ → ℕ → ℕ → Option Step
steps one zero at d = step_to at d
steps one (suc k) at d = pick (whole (one at)) (steps one k (place_of (one at)) (d + differ_of (one at))) ends_early

-- One name that is asked about: its length, its bytes, three answers; k of them
abbrev pub name_by : List ℕ → ℕ → ℕ → ℕ → List ℕ → Option Step
name_by f from size n s =
    pick (ltb (length f - from) (size + 3)) ends_early
    (step_to (from + size + 3) (question_differences f (from + size) n s (take (from + size - from) (drop from f))))

unfoldable pub name_step : List ℕ → ℕ → List ℕ → ℕ → Option Step
name_step f n s at = pick (ltb (length f - at) 1) ends_early (name_by f (at + 1) (get_or f at 0) n s)

abbrev pub names_step : List ℕ → ℕ → List ℕ → ℕ → ℕ → Option Step
names_step f n s k at = steps (name_step f n s) k at 0

-- The answers on one image, from its refusal on, where its list has k records
abbrev pub answer_differences : List ℕ → ℕ → ℕ → ℕ → List ℕ → ℕ
answer_differences f at k n s =
    pass_differences f (at + 1) n s + verdict_differences f (at + 1) n s + lists_differences f (at + 41) k n s
    + pass_difference linear f (at + 1 + 24) n s

abbrev pub answers_by : List ℕ → ℕ → ℕ → ℕ → List ℕ → Option Step
answers_by f at k n s =
    pick (ltb (length f - (at + 41)) (record_bytes * k + 1)) ends_early
    (after (answer_differences f at k n s) (names_step f n s (get_or f (at + 41 + record_bytes * k) 0) (at + 41 + record_bytes * k + 1)))

unfoldable pub answers_step : List ℕ → ℕ → List ℕ → Option Step
answers_step f at s = answers_by f at (full_word f (at + 37)) (get_or f at 0) s

-- One image, of `size` bytes, and the answers on it; k of them
abbrev pub image_by : List ℕ → ℕ → ℕ → Option Step
image_by f from size =
    pick (ltb (length f - from) (size + 41)) ends_early (answers_step f (from + size) (take (from + size - from) (drop from f)))

unfoldable pub image_step : List ℕ → ℕ → Option Step
image_step f at = pick (ltb (length f - at) 4) ends_early (image_by f (at + 4) (full_word f at))

abbrev pub images_step : List ℕ → ℕ → Option Step
images_step f k = steps (image_step f) k 4 0

-- How many differences k steps tell from `at` on, where `tells` says it of each: what was told stays told where the answers end too early
unfoldable pub told : (ℕ → ℕ) → (ℕ → Option Step) → ℕ → ℕ → ℕ
told tells one zero at = 0
told tells one (suc k) at = tells at + pick (whole (one at)) (told tells one k (place_of (one at))) 0

-- .. of a name, and of k names
abbrev pub name_told : List ℕ → ℕ → List ℕ → ℕ → ℕ
name_told f n s at = differ_of (name_step f n s at)

abbrev pub names_told : List ℕ → ℕ → List ℕ → ℕ → ℕ → ℕ
names_told f n s k at = told (name_told f n s) (name_step f n s) k at

-- .. of the answers on an image
abbrev pub answers_told_by : List ℕ → ℕ → ℕ → ℕ → List ℕ → ℕ
answers_told_by f at k n s =
    pick (ltb (length f - (at + 41)) (record_bytes * k + 1)) 0
    (answer_differences f at k n s + names_told f n s (get_or f (at + 41 + record_bytes * k) 0) (at + 41 + record_bytes * k + 1))

unfoldable pub answers_told : List ℕ → ℕ → List ℕ → ℕ
answers_told f at s = answers_told_by f at (full_word f (at + 37)) (get_or f at 0) s

-- .. of an image, and of k images
abbrev pub image_told_by : List ℕ → ℕ → ℕ → ℕ
image_told_by f from size =
    pick (ltb (length f - from) (size + 41)) 0 (answers_told f (from + size) (take (from + size - from) (drop from f)))

unfoldable pub image_told : List ℕ → ℕ → ℕ
image_told f at = pick (ltb (length f - at) 4) 0 (image_told_by f (at + 4) (full_word f at))

abbrev pub images_told : List ℕ → ℕ → ℕ
images_told f k = told (image_told f) (image_step f) k 4
