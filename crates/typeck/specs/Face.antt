-- What the public functions answer: document 01's numbers for each case of an enum, the case that numbers name, and what is promised of
-- an answer: the numbers of the rules, and no other case than they name. A pass's own answer is that of `passes`, passed on here.
use Rattle.std.specs.Prelude.{ℕ, ◌≡◌, Option, None, Some, Result, Ok, Err, Bool, true, false, List, eqb, length}
use Rattle.image.specs.Pick.{pick}
use Rattle.rules.specs.Tree.{Tree}
use Rattle.rules.specs.Vocabulary.{Rec}
use Rattle.rules.specs.Answers as rules
unfoldable pub use Rattle.rules.specs.Answers.{part_answer, part_words}
use Rattle.image.specs.declared.Refusal.{Refusal}
use Rattle.image.specs.Refusals.{number_of, refusal_of}
use Rattle.passes.specs.declared.Offence.{Offence}
use Rattle.passes.specs.declared.Answers.{Answers}
pub use Rattle.passes.specs.Verdicts.{Verdict, Stands, answer_of, verdict_of, Judged}
use Rattle.typeck.specs.declared.Unlisted.{Unlisted}
use Rattle.typeck.specs.declared.Unlisted.TheVariants as unlisted

-- the number of an image's refusal, 0 where it is admitted
abbrev pub refused_as : Option Refusal → ℕ
refused_as = elim [ None ↦ 0 | Some r ↦ number_of r ]

abbrev pub refusal_as : ℕ → Option Refusal
refusal_as r = pick (eqb r 0) None (Some (refusal_of r))

-- one of the verdicts that are given at once
abbrev pub verdict_in : (Answers → Option Offence) → Result Answers Refusal → Verdict
verdict_in one = elim [ Ok a ↦ Ok (one a) | Err r ↦ Err r ]

-- A question about a name

abbrev pub numbered : Result Bool Refusal → rules.NameReply
numbered = elim [ Ok b ↦ rules.replied b | Err r ↦ rules.reply_refused (number_of r) ]

abbrev pub reply_of : rules.NameReply → Result Bool Refusal
reply_of a = pick (eqb a.number 0) (Ok a.yes) (Err (refusal_of a.number))

abbrev pub Replied : (Tree → List ℕ → Bool) → List ℕ → List ℕ → Result Bool Refusal → Type 0
Replied asked s w r = Stands numbered reply_of (rules.ask asked s w) r

-- yes as a number
abbrev pub one_of : Bool → ℕ
one_of true = 1
one_of false = 0

-- A list, with the lent words before and after

-- 1 to 8 the image's refusal, 9 where there is no room
abbrev pub unlisted_by : Unlisted → ℕ
unlisted_by = elim [ unlisted.Image r ↦ number_of r | unlisted.Room ↦ 9 ]

abbrev pub unlisted_of : ℕ → Unlisted
unlisted_of r = pick (eqb r 9) unlisted.Room (unlisted.Image (refusal_of r))

abbrev pub listing_of : Result ℕ Unlisted → rules.ListReply
listing_of = elim [ Ok k ↦ rules.list_has k | Err r ↦ rules.list_refused (unlisted_by r) ]

abbrev pub listed_of : rules.ListReply → Result ℕ Unlisted
listed_of a = pick (eqb a.number 0) (Ok a.records) (Err (unlisted_of a.number))

abbrev pub ListedAll : List ℕ → List ℕ → Result ℕ Unlisted → List ℕ → Type 0
ListedAll s words r words' = Stands listing_of listed_of (rules.list_answer s (length words)) r × (words' ≡ rules.list_buffer s words)

-- a pass's part of it
abbrev pub ListedPart : (Tree → List Rec) → List ℕ → List ℕ → Result ℕ Unlisted → List ℕ → Type 0
ListedPart pass s words r words' = Stands listing_of listed_of (part_answer pass s) r × (words' ≡ part_words pass s words)
