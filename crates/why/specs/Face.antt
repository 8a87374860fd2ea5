-- What `why` answers, each case in document 02's numbers, with the lent words before and after.
use Rattle.std.specs.Prelude.{ℕ, ◌≡◌, List, Result, Ok, Err, eqb, length}
use Rattle.image.specs.Pick.{pick}
use Rattle.passes.specs.Verdicts.{Stands}
use Rattle.reasons.specs.Answer.{WhyReply, why_refused, why_told, why_answer, why_buffer}
use Rattle.image.specs.Refusals.{number_of, refusal_of}
use Rattle.why.specs.declared.Untold.{Untold}
use Rattle.why.specs.declared.Untold.TheVariants as untold

abbrev pub Explained : Type 0
Explained = Result ℕ Untold

-- 1 to 8 the image's refusal, 13 where no lot stands there, 10 where there is no room
abbrev pub untold_by : Untold → ℕ
untold_by (untold.Image r) = number_of r
untold_by untold.NoLot = 13
untold_by untold.Room = 10

abbrev pub untold_of : ℕ → Untold
untold_of r = pick (eqb r 13) untold.NoLot (pick (eqb r 10) untold.Room (untold.Image (refusal_of r)))

-- the numbers of each case, and the case that numbers name
abbrev pub explained_by : Explained → WhyReply
explained_by (Err r) = why_refused (untold_by r)
explained_by (Ok k) = why_told k

abbrev pub explanation : WhyReply → Explained
explanation a = pick (eqb a.number 0) (Ok a.words) (Err (untold_of a.number))

abbrev pub Explains : List ℕ → ℕ → List ℕ → Explained → List ℕ → Type 0
Explains s p words r words' = Stands explained_by explanation (why_answer s p (length words)) r × (words' ≡ why_buffer s p words)
