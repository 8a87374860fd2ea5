-- What the contracts of the public forms settle: where an `ensures` holds of two results, they are equal, and so are the lent rows afterwards.
-- The theorems speak of the clauses themselves, in any model of the logic.
use mathlib.Core.Path.{◌≡◌}
use seplogic.Ra.Ura.{Ura}
use base.Logic.{SProp, ent, sep, id⊢}
use prog.Memory.{Memory}
use prog.Routine.{Routine}
use types.Logic.{Logic}
use contract.Lifetimes.{Lfts}
use contract.Monad.{Fun, fact, fact_i, fact_use}
use denote.Triple.Clauses.{AtExit}
use denote.Triple.Entry.{Args}
use denote.Triple.Walked.{needs}
use Rattle.rules.specs.Linear.{linear as pass}
use Rattle.passes.specs.Verdicts.{Verdict}
use Rattle.typeck.specs.Face.{Judged}
use Rattle.typeck.proofs.Settles.{same, only}
use Rattle.linear_lent.specs.Lent.{JudgedIn}
use Rattle.linear_lent.specs.contracts.linear as linear
use Rattle.linear_lent.specs.contracts.linear_here as linear-here

module _ {M : Type 1} (𝓤 : Ura M) where
  -- of two facts, what follows from both
  both_facts : (φ ψ χ : Type 0) → (φ → ψ → χ) → ent 𝓤 (sep 𝓤 (fact 𝓤 φ) (fact 𝓤 ψ)) (fact 𝓤 χ)
  both_facts φ ψ χ h = needs 𝓤 ψ (fact 𝓤 φ) (λ q. fact_use 𝓤 φ (id⊢ 𝓤 (fact 𝓤 φ)) (λ p. fact_i 𝓤 χ (fact 𝓤 φ) (h p q)))

  module _ (𝓛 : Logic 𝓤) (mem : Memory → SProp 𝓤) (run : Routine → Fun 𝓤) where
    pub linear-settles : (κs : Lfts 2) (a : Args linear.signature κs) (v w : Verdict) (e f : AtExit linear.ended κs)
        → ent 𝓤 (sep 𝓤 ((linear.clauses 𝓛 mem run κs a).ensures tt v e) ((linear.clauses 𝓛 mem run κs a).ensures tt w f)) (fact 𝓤 ((v ≡ w) × (e.1.0.now ≡ f.1.0.now)))
    linear-settles κs a v w e f =
        both_facts (JudgedIn a.0.now a.1.0.now v e.1.0.now) (JudgedIn a.0.now a.1.0.now w f.1.0.now) ((v ≡ w) × (e.1.0.now ≡ f.1.0.now))
        (λ p q. (only p.verdict q.verdict, same p.rows_are q.rows_are))

    pub linear-here-settles : (κs : Lfts 1) (a : Args linear-here.signature κs) (v w : Verdict) (e f : AtExit linear-here.ended κs)
        → ent 𝓤 (sep 𝓤 ((linear-here.clauses 𝓛 mem run κs a).ensures tt v e) ((linear-here.clauses 𝓛 mem run κs a).ensures tt w f)) (fact 𝓤 (v ≡ w))
    linear-here-settles κs a v w e f = both_facts (Judged pass a.0.now v) (Judged pass a.0.now w) (v ≡ w) only
