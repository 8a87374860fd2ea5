-- 30 and 31 at an Emit: what the last event of its name says of the rules.
use Prim.Native.Nat.{ℕ, ◌+◌, ◌<◌}
use mathlib.Core.Path.{◌≡◌, refl, ap, ◌∙◌, sym}
use mathlib.Core.Bool.{Bool, true, false, not}
use mathlib.Core.List.{List}
use mathlib.Core.Logic.{◌⊎◌, inl, inr}
use native.Mathlib.Omega.{arith}
use borrow.Author.Tests.{lt-ltb, ne_eqb}
use lib.Dec.{ltb, eqb}
use lib.ListN.{length}
use Rattle.image.specs.Pick.{both}
use Rattle.image.proofs.Decide.{eq-or-ne}
use Rattle.image.proofs.Every.{both_left}
use Rattle.rules.specs.Tree.{Tree, event, event_param}
use Rattle.rules.specs.Vocabulary.{rec, only, alone, Below, below, Named, IsLast, arguments}
use Rattle.rules.specs.Resolve.{rule30, rule31, last_event, unlike}
use Rattle.rules.proofs.Reflect.{Tells, tells_both, tells-not, tells-ltb, tells-named, tells-some_below}
use Rattle.nodes.proofs.Fall.{not_so}
use Rattle.places.specs.Places.{last_of}
use Rattle.places.proofs.Reading.{last-is, last-absent, last-declares, last-holds}

-- the last event of a name
tells-last : (t : Tree) (w : List ℕ) (v : ℕ) → Tells (last_event t w v) ((t.text (v + 1) ≡ w) × (((u : ℕ) × Below t event t.root u × ((v < u) × (t.text (u + 1) ≡ w))) → ⊥))
unfolding last_event
tells-last t w v = tells_both (tells-named t w v) (tells-not (tells-some_below t event t.root (λ u. tells_both (tells-ltb v u) (tells-named t w u))))

is_last : (t : Tree) (w : List ℕ) (i : ℕ) → Below t event t.root i → last_event t w i ≡ true → IsLast (Named t event t.root w) i
is_last t w i B e = let x = (tells-last t w i).so e in record { is = (B, x.0); none = λ j l N. x.1 (j, N.0, (l, N.1)) }

last-so : (t : Tree) (w : List ℕ) → 0 < last_of t event t.root w → last_event t w (last_of t event t.root w) ≡ true
last-so t w l = let L = last-is t event t.root w l in (tells-last t w (last_of t event t.root w)).back (L.is.1, λ u. L.none u.0 u.2.0 (u.1, u.2.1))

itself : (b : Bool) → Tells b (b ≡ true)
itself b = record { so = λ e. e; back = λ e. e }

zero_or : (v : ℕ) → not (ltb 0 v) ≡ eqb v 0
zero_or v = go (eq-or-ne v 0)
  where
    go : (v ≡ 0) ⊎ (v ≡ 0 → ⊥) → not (ltb 0 v) ≡ eqb v 0
    go (inl e) = rw e refl
    go (inr n) = ap not (lt-ltb 0 v (omega (arith, n))) ∙ sym (ne_eqb v 0 n)

-- at the Emit m, v being the last event of its name, 0 if there is none
module _ (t : Tree) (m v : ℕ) (d : v ≡ last_of t event t.root (t.text (m + 1))) where
  pub event-30 : rule30 t m ≡ only (eqb v 0) (rec 30 m 0)
  unfolding rule30
  event-30 = ap (λ (b : Bool). only b (rec 30 m 0)) (ap not (last-declares t event t.root (t.text (m + 1)) ∙ ap (ltb 0) (sym d)) ∙ zero_or v)

  pub none-31 : v ≡ 0 → rule31 t m ≡ only false (rec 31 m 0)
  unfolding rule31
  none-31 z =
      ap (λ (b : Bool). only b (rec 31 m 0))
      (not_so _
      (λ e.
      let x = (tells-some_below t event t.root (λ i. itself (both (last_event t (t.text (m + 1)) i) (unlike t m i)))).so e in
      last-absent t event t.root (t.text (m + 1)) (sym d ∙ z) x.0 (is_last t (t.text (m + 1)) x.0 x.1 (both_left (last_event t (t.text (m + 1)) x.0) _ x.2)).is))

  pub event-31 : {a b : ℕ} → (v ≡ 0 → ⊥) → a ≡ length (arguments t m alone) → b ≡ length (below t event_param v alone) → rule31 t m ≡ only (not (eqb a b)) (rec 31 m 0)
  unfolding rule31 unlike
  event-31 n e f =
      let g : 0 < last_of t event t.root (t.text (m + 1)) = omega (arith, n) in
      ap (λ (b : Bool). only b (rec 31 m 0))
      (last-holds t event t.root (t.text (m + 1)) (λ u. both (last_event t (t.text (m + 1)) u) (unlike t m u)) g (λ i B e. is_last t (t.text (m + 1)) i B (both_left (last_event t (t.text (m + 1)) i) _ e))
      ∙ ap (λ (b : Bool). both b (unlike t m (last_of t event t.root (t.text (m + 1))))) (last-so t (t.text (m + 1)) g) ∙ ap (unlike t m) (sym d) ∙ rw (e, f))
