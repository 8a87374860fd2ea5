-- What `why` answers, on all inputs: the image's refusal, 1 to 8; 13 when the place is no tracked asset; 10 for a short buffer; or how
-- many words there are, and the words in the buffer. `Demands` ties the answer to the facts.
use Rattle.std.specs.Prelude.{ℕ, List, [], ◌∷◌, ltb, eqb, length}
use Rattle.std.proofs.lemmas.List.Edits.{sets}
use Rattle.image.specs.Pick.{pick}
use Rattle.image.specs.Admit.{refusal}
use Rattle.rules.specs.Tree.{tree}
use Rattle.reasons.specs.Compute.{reasons_at}

-- a number, 0 or the refusal, and how many words: 0 on refusal
pub record WhyReply : Type 0 where
  pub number : ℕ
  pub words : ℕ

abbrev pub why_refused : ℕ → WhyReply
why_refused r = record { number = r; words = 0 }

abbrev pub why_told : ℕ → WhyReply
why_told k = record { number = 0; words = k }

-- of the lists of the rows at a place, of which there is at most one
abbrev pub reply_by : List (List ℕ) → ℕ → WhyReply
reply_by [] size = why_refused 13
reply_by (w ∷ l) size = pick (ltb size (length w)) (why_refused 10) (why_told (length w))

unfoldable pub why_answer : List ℕ → ℕ → ℕ → WhyReply
why_answer s p size = pick (eqb (refusal s) 0) (reply_by (reasons_at (tree s) p) size) (why_refused (refusal s))

abbrev pub words_of : List (List ℕ) → List ℕ
words_of [] = []
words_of (w ∷ l) = w

-- the buffer afterwards: as it was on refusal, else with the words; those past them keep their values
unfoldable pub why_buffer : List ℕ → ℕ → List ℕ → List ℕ
why_buffer s p o = pick (eqb (why_answer s p (length o)).number 0) (sets o 0 (words_of (reasons_at (tree s) p))) o
