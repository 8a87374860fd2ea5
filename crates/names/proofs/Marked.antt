-- The mark of a word: what a table says once the word's number, if it has one, is marked.
use Prim.Native.Nat.{ℕ, ◌-◌, ◌<◌, ◌≤◌}
use mathlib.Core.Path.{◌≡◌, ap, ◌∙◌, sym}
use mathlib.Core.Bool.{Bool, true}
use mathlib.Core.List.{List}
use native.Mathlib.Omega.{arith}
use lib.ListN.{set}
use Rattle.image.specs.Maxima.{max_names}
use Rattle.image.specs.Admit.{refusal}
use Rattle.image.proofs.Given.{given}
use Rattle.rules.specs.Sweep.{either, same}
use Rattle.rules.proofs.Reflect.{tells_as, tells-same, one-fact}
use Rattle.nodes.specs.Shown.{name_text}
use Rattle.nodes.specs.Marks.{Marks, marking}
use Rattle.nodes.proofs.Names.{same_not, marks-as, marks-set, either-false}
use Rattle.names.specs.Found.{Numbered}

-- an image has 1,024 names at most
pub number_small : {s w : List ℕ} {x : ℕ} → refusal s ≡ 0 → Numbered s w x → x ≤ max_names
number_small {s} e N = let m = (given s e).header.names in let h = N.high in omega arith

same-sym : (v w : List ℕ) → same v w ≡ same w v
same-sym v w = one-fact (tells_as sym sym (tells-same v w)) (tells-same w v)

module _ {s : List ℕ} (e : refusal s ≡ 0) {w : List ℕ} {x : ℕ} (N : Numbered s w x) (P : List ℕ → Bool) {r : List Bool} (M : Marks s P r) where
  pub word_none : x < 1 → Marks s (λ v. either (P v) (same v w)) r
  word_none l = record {
    size = M.size;
    mark = λ y a b. M.mark y a b ∙ sym (ap (either (P (name_text s y))) (same_not (name_text s y) w (N.none (omega arith) y a b)) ∙ either-false (P (name_text s y)));
  }

  pub word-marks : 1 ≤ x → Marks s (λ v. either (P v) (same v w)) (set r (x - 1) true)
  unfolding marking
  word-marks l = marks-as (λ v. ap (either (P v)) (ap (λ (u : List ℕ). same u v) (N.is l) ∙ same-sym w v)) (marks-set true s P r x e l N.high M)
