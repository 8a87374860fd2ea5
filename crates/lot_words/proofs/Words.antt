-- Laws of words that are told: nothing, one list after another; and of a list that has some words for each node.
use Prim.Native.Nat.{ℕ, zero, suc, ◌+◌}
use mathlib.Core.Path.{◌≡◌, refl, ap, ◌∙◌, sym}
use mathlib.Core.List.{List, [], ◌∷◌, ◌++◌, append-nil, append_assoc}
use native.Mathlib.Omega.{arith}
use lib.ListN.{length, length-append}
use lib.Seq.{length-sets}
use Rattle.rules.specs.Sweep.{run}
use Rattle.rules.specs.Vocabulary.{alone}
use Rattle.records.proofs.Laws.{sets-append}
use Rattle.records.proofs.Sweep.{Follows}
use Rattle.reasons.specs.Compute.{each}
use Rattle.lot_words.specs.Told.{Wrote}

pub wrote_none : (o : List ℕ) (k : ℕ) → Wrote o k [] o k
wrote_none o k = record { count = omega arith; words = refl }

pub wrote-join : {o₀ o₁ o₂ : List ℕ} {k₀ k₁ k₂ : ℕ} {a b : List ℕ} → Wrote o₀ k₀ a o₁ k₁ → Wrote o₁ k₁ b o₂ k₂ → Wrote o₀ k₀ (a ++ b) o₂ k₂
wrote-join {o₀} {k₀ = k₀} {a = a} {b = b} p q = record {
  count = q.count ∙ omega (arith, p.count, length-append a b);
  words = q.words ∙ rw p.words (rw p.count (sym (sets-append o₀ k₀ a b)));
}

pub wrote_as : {o₀ : List ℕ} {k₀ : ℕ} {v w : List ℕ} {o : List ℕ} {k : ℕ} → v ≡ w → Wrote o₀ k₀ v o k → Wrote o₀ k₀ w o k
wrote_as e p = rw e at p

pub wrote-follows : Follows Wrote
wrote-follows = record { none = wrote_none; join = wrote-join }

-- nothing is told
pub told-nothing : {w : List ℕ} {o : List ℕ} {k : ℕ} → w ≡ [] → Wrote o k w o k
told-nothing {o = o} {k = k} e = wrote_as (sym e) (wrote_none o k)

module _ (f : ℕ → List ℕ) where
  pub each_append : (l m : List ℕ) → each f (l ++ m) ≡ each f l ++ each f m
  unfolding each
  each_append [] m = refl
  each_append (x ∷ l) m = ap (λ (v : List ℕ). f x ++ v) (each_append l m) ∙ sym (append_assoc (f x) (each f l) (each f m))

  pub each-run : (g : ℕ → List ℕ) (a n : ℕ) → each f (run g a n) ≡ run (λ i. each f (g i)) a n
  unfolding run each
  each-run g a zero = refl
  each-run g a (suc n) = each_append (run g a n) (g (a + n)) ∙ ap (λ (v : List ℕ). v ++ each f (g (a + n))) (each-run g a n)

  -- of no node, of one
  pub each_none : {l : List ℕ} → l ≡ [] → each f l ≡ []
  unfolding each
  each_none e = rw e refl

  pub each-one : {l : List ℕ} (x : ℕ) → l ≡ alone x → each f l ≡ f x
  unfolding each
  each-one x e = rw e (append-nil (f x))

pub wrote-long : {o₀ : List ℕ} {k₀ : ℕ} {w : List ℕ} {o : List ℕ} {k : ℕ} → Wrote o₀ k₀ w o k → length o ≡ length o₀
wrote-long {o₀} {k₀} {w} p = ap length p.words ∙ length-sets o₀ k₀ w
