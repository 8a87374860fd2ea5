-- The verdict of what was found; the header of an admitted image.
use Rattle.std.specs.Prelude.{ℕ, List, ◌≡◌, ◌≤◌}
use Rattle.std.proofs.Common.{◌∙◌, sym, ap, arith}
use borrow.Author.Tests.{eq-eqb, ne_eqb, lt-ltb, le-ltb}
use Rattle.image.specs.Admit.{refusal, header_refusal, admission_of}
use Rattle.image.specs.declared.Image.{Image}
use Rattle.std.specs.Prelude.{Option, None, Some, Result, Ok, Err}
use Rattle.std.specs.Result.{result_ok}
use Rattle.image.specs.declared.Refusal.{Refusal}
use Rattle.image.specs.Refusals.{number_of, refusal_of}
use Rattle.image.proofs.Refusals.{known, positive, below-nine}
use Rattle.image.proofs.Verdict.{admitted-is, refused-is, refused-early}
use Rattle.rules.specs.Answers.{span_from, span_to}
use Rattle.nodes.specs.Shown.{Admitted}
use Rattle.passes.specs.declared.Offence.{Offence}
use Rattle.typeck.specs.Face.{Verdict, verdict_of}
use Rattle.linear_steps.specs.declared.Found.{Found}
use Rattle.linear_lent.specs.Lent.{answered}

module _ (s : List ℕ) (z : refusal s ≡ 0) where
  pub header-admitted : (i : Image) → admission_of (header_refusal s) s ≡ Ok i → Admitted s i
  header-admitted i e =
      let a = admitted-is (header_refusal s) s i e in
      record { admitted = z; nodes = ap (λ (j : Image). j.nodes) a.1; names = ap (λ (j : Image). j.names) a.1 }

  pub header-in-order : (k : Refusal) → admission_of (header_refusal s) s ≡ Err k → ⊥
  header-in-order k e = let n = (refused-is (header_refusal s) s k e).0 in n (sym (refused-early s n) ∙ z)

-- so its header is read
pub is-read : (s : List ℕ) → refusal s ≡ 0 → (r : Result Image Refusal) → r ≡ admission_of (header_refusal s) s → None ≡ result_ok r → ⊥
is-read s z (Ok i) e n = cc
is-read s z (Err k) e n = header-in-order s z k (sym e)

abbrev pub refuses : Offence → Verdict
refuses o = Ok (Some o)

abbrev accepts : Verdict
accepts = Ok None

abbrev refused : Refusal → Verdict
refused r = Err r

pub code-found : (s : List ℕ) (f : Found) {c p w x y : ℕ} → f.number ≡ c → f.place ≡ p → 9 ≤ c → w ≡ p → x ≡ span_from s w → y ≡ span_to s w → refuses (record { code = c; place = p; from = x; to = y }) ≡ verdict_of (answered s f)
code-found s f d e h a b g =
    let k : verdict_of (answered s f) ≡ refuses (record { code = f.number; place = f.place; from = span_from s f.place; to = span_to s f.place }) = simp (ne_eqb f.number 0 (λ z. omega arith), le-ltb f.number 9 (omega arith)) in
    rw (b, g, a, sym d, sym e) (sym k)

-- a number from 1 to 8 is that of the image's refusal; 0 is acceptance
pub image-found : (s : List ℕ) (f : Found) (r : Refusal) → number_of r ≡ f.number → refused r ≡ verdict_of (answered s f)
image-found s f r e =
    let h = below-nine r in
    let n = positive r in
    let k : verdict_of (answered s f) ≡ refused (refusal_of f.number) = simp (ne_eqb f.number 0 (λ z. n (e ∙ z)), lt-ltb f.number 9 (omega arith)) in
    ap refused (sym (known r) ∙ ap refusal_of e) ∙ sym k

pub nothing-found : (s : List ℕ) (f : Found) → f.number ≡ 0 → accepts ≡ verdict_of (answered s f)
nothing-found s f e = sym (simp (eq-eqb f.number 0 e))
