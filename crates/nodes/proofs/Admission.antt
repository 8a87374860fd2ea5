-- From the answer of admission: the header of an admitted image, the number of a refusal.
use Prim.Native.Nat.{ℕ}
use mathlib.Core.Path.{◌≡◌, ap, ◌∙◌}
use mathlib.Core.List.{List}
use Rattle.std.specs.Prelude.{Ok, Err}
use Rattle.image.specs.Refusals.{number_of}
use Rattle.image.specs.Admit.{refusal, admission_of}
use Rattle.image.specs.declared.Image.{Image}
use Rattle.image.specs.declared.Refusal.{Refusal}
use Rattle.image.proofs.Verdict.{admitted-is, refused-is}
use Rattle.image.proofs.Refusals.{numbered}
use Rattle.rules.proofs.Answers.{refusal-most}
use Rattle.nodes.specs.Shown.{Admitted}

module _ (s : List ℕ) where
  pub admitted-by : (i : Image) → admission_of (refusal s) s ≡ Ok i → Admitted s i
  admitted-by i e =
      let a = admitted-is (refusal s) s i e in
      record { admitted = a.0; nodes = ap (λ (j : Image). j.nodes) a.1; names = ap (λ (j : Image). j.names) a.1 }

  pub refused-number : (k : Refusal) → admission_of (refusal s) s ≡ Err k → number_of k ≡ refusal s
  refused-number k e = let r = refused-is (refusal s) s k e in ap number_of r.1 ∙ numbered (refusal s) r.0 (refusal-most s)
