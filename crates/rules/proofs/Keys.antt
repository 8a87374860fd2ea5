-- A record's key, from the nodes that hold its place: what is left of the table of groups once the code is known.
use Prim.Native.Nat.{ℕ, ◌<◌}
use mathlib.Core.Path.{◌≡◌, ap, ◌∙◌}
use mathlib.Core.Bool.{Bool, true, false, not}
use mathlib.Core.List.{List, [], ◌∷◌}
use native.Mathlib.Omega.{arith}
use borrow.Author.Tests.{eq-eqb, ne_eqb}
use lib.Dec.{eqb}
use Rattle.image.specs.Pick.{pick, both}
use Rattle.rules.specs.Sweep.{either}

-- whether there is a holder
abbrev pub held : ℕ → Bool
held h = not (eqb h 0)

pub held-yes : {h x : ℕ} → h ≡ x → 0 < x → held h ≡ true
held-yes {h} e l = ap not (ne_eqb h 0 (λ z. omega arith))

pub held-no : {h : ℕ} → h ≡ 0 → held h ≡ false
held-no {h} e = ap not (eq-eqb h 0 e)

-- of a group that goes part by part
pub part-key : (g s p : ℕ) (l : List ℕ) {h x : ℕ} → h ≡ x → 0 < x → pick (held h) (g ∷ h ∷ s ∷ p ∷ []) l ≡ g ∷ x ∷ s ∷ p ∷ []
part-key g s p l {h} e k = ap (λ (b : Bool). pick b (g ∷ h ∷ s ∷ p ∷ []) l) (held-yes e k) ∙ ap (λ (n : ℕ). g ∷ n ∷ s ∷ p ∷ []) e

-- of 34: a Genesis's, else an entry's
pub later-key : (g s p : ℕ) (k l : List ℕ) {z h x : ℕ} → z ≡ 0 → h ≡ x → 0 < x → pick (held z) k (pick (held h) (g ∷ h ∷ s ∷ p ∷ []) l) ≡ g ∷ x ∷ s ∷ p ∷ []
later-key g s p k l {h = h} n e m = ap (λ (b : Bool). pick b k (pick (held h) (g ∷ h ∷ s ∷ p ∷ []) l)) (held-no n) ∙ part-key g s p l e m

-- of Emits: in entries, then genesis
abbrev pub emit_key : Bool → Bool → ℕ → List ℕ
emit_key a b p = pick (either a (either b false)) (6 ∷ 0 ∷ pick a 1 (pick b 2 3) ∷ p ∷ []) []

pub entry-emit : (p i : ℕ) {h x : ℕ} → h ≡ x → 0 < x → emit_key (held h) (held i) p ≡ 6 ∷ 0 ∷ 1 ∷ p ∷ []
entry-emit p i e l = ap (λ (b : Bool). emit_key b (held i) p) (held-yes e l)

pub genesis-emit : (p : ℕ) {h i x : ℕ} → h ≡ 0 → i ≡ x → 0 < x → emit_key (held h) (held i) p ≡ 6 ∷ 0 ∷ 2 ∷ p ∷ []
genesis-emit p {i = i} n e l = ap (λ (b : Bool). emit_key b (held i) p) (held-no n) ∙ ap (λ (b : Bool). emit_key false b p) (held-yes e l)

-- of `deployer`: a signer's or an Invariant's, the body's, a clause's
abbrev pub deployer_key : Bool → Bool → Bool → ℕ → ℕ → List ℕ
deployer_key a b c h p = pick (both (either a (either b (either c false))) (held h)) (7 ∷ h ∷ pick a 1 (pick b 2 (pick c 3 4)) ∷ p ∷ []) []

-- its turn, by the holders of the three kinds
pub record Turned (i j k d : ℕ) : Type 0 where
  pub turn : (h p : ℕ) → deployer_key (held i) (held j) (held k) h p ≡ pick (held h) (7 ∷ h ∷ d ∷ p ∷ []) []

pub turned-1 : {i j k x : ℕ} → i ≡ x → 0 < x → Turned i j k 1
turned-1 {j = j} {k = k} e l = record { turn = λ h p. ap (λ (b : Bool). deployer_key b (held j) (held k) h p) (held-yes e l) }

pub turned-2 : {i j k x : ℕ} → i ≡ 0 → j ≡ x → 0 < x → Turned i j k 2
turned-2 {j = j} {k = k} n e l = record {
  turn = λ h p. ap (λ (b : Bool). deployer_key b (held j) (held k) h p) (held-no n) ∙ ap (λ (b : Bool). deployer_key false b (held k) h p) (held-yes e l);
}

pub turned-3 : {i j k x : ℕ} → i ≡ 0 → j ≡ 0 → k ≡ x → 0 < x → Turned i j k 3
turned-3 {j = j} {k = k} n m e l = record {
  turn = λ h p.
      ap (λ (b : Bool). deployer_key b (held j) (held k) h p) (held-no n) ∙ ap (λ (b : Bool). deployer_key false b (held k) h p) (held-no m)
      ∙ ap (λ (b : Bool). deployer_key false false b h p) (held-yes e l);
}

pub deployer-key : (p : ℕ) {i j k d h x : ℕ} → Turned i j k d → h ≡ x → 0 < x → deployer_key (held i) (held j) (held k) h p ≡ 7 ∷ x ∷ d ∷ p ∷ []
deployer-key p {d = d} {h = h} t e l = t.turn h p ∙ part-key 7 d p [] e l
