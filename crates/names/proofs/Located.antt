-- The number of a word, from how many names are before it: a name with its bytes can only be the first that is not.
use Prim.Native.Nat.{ℕ, ◌+◌, ◌-◌, ◌<◌, ◌≤◌}
use mathlib.Core.Path.{◌≡◌, ap, ◌∙◌, sym, subst}
use mathlib.Core.Bool.{true, false, true≢false}
use mathlib.Core.List.{List}
use native.Mathlib.Omega.{arith}
use Rattle.image.specs.Text.{less}
use Rattle.image.specs.Admit.{name_count}
use Rattle.image.specs.declared.Image.{Image}
use Rattle.rules.specs.Sweep.{same}
use Rattle.rules.proofs.Reflect.{tells-same}
use Rattle.rules.proofs.Numbers.{never}
use Rattle.nodes.specs.Shown.{Admitted, name_text}
use Rattle.names.specs.Found.{Parted, Numbered}
use Rattle.names.proofs.Table.{ascends}

module _ {s : List ℕ} {head : Image} (H : Admitted s head) {w : List ℕ} {k : ℕ} (P : Parted s w k) where
  only : (x : ℕ) → 1 ≤ x → x ≤ name_count s → name_text s x ≡ w → x ≡ k + 1
  only x l h d =
      squeeze
      (λ g. let y : x - 1 + 1 ≡ x = omega arith in never w (subst (λ (v : List ℕ). less v w ≡ true) (ap (name_text s) y ∙ d) (P.under (x - 1) (omega arith))))
      (λ g. true≢false (sym (subst (λ (v : List ℕ). less (name_text s (k + 1)) v ≡ true) d (ascends H (k + 1) x g h)) ∙ P.over k (omega arith) (omega arith)))
    where
      squeeze : (x ≤ k → ⊥) → (k + 1 < x → ⊥) → x ≡ k + 1
      squeeze u o = omega (arith, u, o)

  pub found_none : name_count s ≤ k → Numbered s w 0
  found_none g = record { high = omega arith; is = λ l. absurd (omega arith); none = λ _ x l h d. let z = only x l h d in omega arith }

  pub found-other : same (name_text s (k + 1)) w ≡ false → Numbered s w 0
  found-other f = record {
    high = omega arith;
    is = λ l. absurd (omega arith);
    none = λ _ x l h d. true≢false (sym ((tells-same (name_text s (k + 1)) w).back (ap (name_text s) (sym (only x l h d)) ∙ d)) ∙ f);
  }

  pub found_here : k < name_count s → same (name_text s (k + 1)) w ≡ true → Numbered s w (k + 1)
  found_here l t = record { high = omega arith; is = λ g. (tells-same (name_text s (k + 1)) w).so t; none = λ z. absurd (omega arith) }
