-- What a pass answers: document 01's numbers for each case of a verdict, the case that numbers name, and what is promised of an answer:
-- the numbers of the rules, and no other case than they name.
use Rattle.std.specs.Prelude.{ℕ, ◌≡◌, List, Option, None, Some, Result, Ok, Err, eqb, ltb}
use Rattle.image.specs.Pick.{pick}
use Rattle.rules.specs.Tree.{Tree}
use Rattle.rules.specs.Vocabulary.{Rec}
use Rattle.rules.specs.Answers as rules
use Rattle.image.specs.declared.Refusal.{Refusal}
use Rattle.image.specs.Refusals.{number_of, refusal_of}
use Rattle.passes.specs.declared.Offence.{Offence}
pub use Rattle.passes.specs.First.{records_of, verdict_by}

-- the answer a has the numbers n, and is the case that they name
pub record Stands {A N : Type 0} (numbers_of : A → N) (case_of : N → A) (n : N) (a : A) : Type 0 where
  pub numbers : numbers_of a ≡ n
  pub case : a ≡ case_of n

-- the image is refused; the pass accepts; it refuses with an offence
abbrev pub Verdict : Type 0
Verdict = Result (Option Offence) Refusal

abbrev pub answer_of : Verdict → rules.Answer
answer_of (Err r) = rules.image_refused (number_of r)
answer_of (Ok None) = rules.accepted
answer_of (Ok (Some o)) = record { number = o.code; place = o.place; from = o.from; to = o.to }

-- 0 acceptance, 1 to 8 the image's refusal, else a code
abbrev pub verdict_of : rules.Answer → Verdict
verdict_of a = pick (eqb a.number 0) (Ok None) (pick (ltb a.number 9) (Err (refusal_of a.number)) (Ok (Some (record { code = a.number; place = a.place; from = a.from; to = a.to }))))

abbrev pub Judged : (Tree → List Rec) → List ℕ → Verdict → Type 0
Judged pass s v = Stands answer_of verdict_of (rules.pass_answer pass s) v
