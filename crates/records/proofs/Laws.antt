-- Laws of what is laid: nothing, one run after another, the length of the buffer; and the entries that records are laid with.
use Prim.Native.Nat.{ℕ, ◌+◌, ◌*◌, ◌≤◌}
use mathlib.Core.List.Memᴰ
use mathlib.Core.List.{List, [], ◌∷◌, ◌++◌, Memᴰ}
use mathlib.Core.Path.{◌≡◌, refl, ap, ◌∙◌, sym, subst}
use mathlib.Core.Logic.{◌⊎◌, inr, ⊎_elim}
use lib.ListN.{length, length-append}
use lib.Seq.{sets, length-sets}
use native.Mathlib.Omega.{arith}
use mathlib.Core.Bool.{Bool, true, false}
use Rattle.rules.specs.Vocabulary.{Rec, rec, only}
pub use Rattle.rules.proofs.Answers.{sets-append}
use Rattle.rules.proofs.Answers.{words_same, laid-append}
use Rattle.std.specs.Prelude.{Option}
use Rattle.std.specs.Prelude.{None, Some}
use Rattle.records.specs.Records.{words, laid, Laid, Held, Added, hit_list}

pub laid_none : {e : ℕ → ℕ} (o : List ℕ) (k : ℕ) → Laid e o k [] o k
laid_none o k = record { count = omega arith; words = refl }

pub laid-join : {e : ℕ → ℕ} {o₀ o₁ o₂ : List ℕ} {k₀ k₁ k₂ : ℕ} {a b : List Rec} → Laid e o₀ k₀ a o₁ k₁ → Laid e o₁ k₁ b o₂ k₂ → Laid e o₀ k₀ (a ++ b) o₂ k₂
laid-join {e} {o₀} {o₁} {o₂} {k₀} {k₁} {k₂} {a} {b} p q = record {
  count = q.count ∙ omega (arith, p.count, length-append a b);
  words = q.words ∙ rw p.words (rw p.count (sym (laid-append e o₀ k₀ a b)));
}

pub laid-long : {e : ℕ → ℕ} {o₀ : List ℕ} {k₀ : ℕ} {l : List Rec} {o : List ℕ} {k : ℕ} → Laid e o₀ k₀ l o k → length o ≡ length o₀
laid-long {e} {o₀} {k₀} {l} {o} {k} p = ap length p.words ∙ length-sets o₀ (4 * k₀) (words e l)

pub laid_as : {e : ℕ → ℕ} {o₀ : List ℕ} {k₀ : ℕ} {l m : List Rec} {o : List ℕ} {k : ℕ} → l ≡ m → Laid e o₀ k₀ l o k → Laid e o₀ k₀ m o k
laid_as q p = rw q at p

-- the same entries, at the places of the records
pub laid-entered : {d e : ℕ → ℕ} {o₀ : List ℕ} {k₀ : ℕ} {l : List Rec} {o : List ℕ} {k : ℕ} → ((r : Rec) → Memᴰ r l → e r.place ≡ d r.place) → Laid d o₀ k₀ l o k → Laid e o₀ k₀ l o k
laid-entered {d} {e} {o₀} {k₀} {l} h p = record { count = p.count; words = p.words ∙ ap (sets o₀ (4 * k₀)) (sym (words_same e d l h)) }

-- one record where the answer is yes, none where it is no
module _ {hit : Bool} {e : ℕ → ℕ} (r : Rec) {o : List ℕ} {k : ℕ} where
  pub added-one : {o' : List ℕ} {k' : ℕ} → hit ≡ true → Added (λ (_ : Unit {0}). e) (λ _. r ∷ []) 1 o k o' k' → Added (λ (_ : Unit {0}). e) (λ _. only hit r) 1 o k o' k'
  unfolding only
  added-one e a = record { laid = λ x. rw e (a.laid x); few = a.few }

  pub added_none : hit ≡ false → Added (λ (_ : Unit {0}). e) (λ _. only hit r) 1 o k o k
  unfolding only
  added_none e = record { laid = λ x. rw e (laid_none o k); few = omega arith }

only-place : (c p : ℕ) (b : Bool) (r : Rec) → Memᴰ r (only b (rec c p 0)) → r.place ≡ p
unfolding only
only-place c p true r m = ap (λ (x : Rec). x.place) (Memᴰ.eq_of_singleton m)
only-place c p false r m = absurd (Memᴰ.not-nil m)

hit-place : (c p : ℕ) (h : Option ℕ) (r : Rec) → Memᴰ r (hit_list h c p) → r.place ≡ p
hit-place c p None r m = absurd (Memᴰ.not-nil m)
hit-place c p (Some q) r m = ap (λ (x : Rec). x.place) (Memᴰ.eq_of_singleton m)

-- What a question answered, and its record, is what the rule adds, where the record's entry is the one that contains its place, in whichever tree y sees.
module _ {X Y : Type 0} (g : Y → X) {F : X → List Rec} {e : Y → ℕ → ℕ} (c p : ℕ) {n : ℕ} {o o' : List ℕ} {k k' : ℕ} where
  -- of records of one place; where there is none, its entry does not matter
  at_place : {l : List Rec} → ((y : Y) → (F (g y) ≡ []) ⊎ (e y p ≡ n)) → ((r : Rec) → Memᴰ r l → r.place ≡ p) → ((x : X) → F x ≡ l) → Added (λ (_ : Unit {0}) _. n) (λ _. l) 1 o k o' k' → Added e (λ y. F (g y)) 1 o k o' k'
  at_place held h q a = record { laid = λ y. laid_as (sym (q (g y))) (laid-entered (λ r m. ⊎_elim (λ z. absurd (Memᴰ.not-nil (subst (Memᴰ r) (sym (q (g y)) ∙ z) m))) (λ z. ap (e y) (h r m) ∙ z) (held y)) (a.laid tt)); few = a.few }

  pub asked-or : ((y : Y) → (F (g y) ≡ []) ⊎ (e y p ≡ n)) → (hit : Bool) → ((x : X) → F x ≡ only hit (rec c p 0)) → Added (λ (_ : Unit {0}) _. n) (λ _. only hit (rec c p 0)) 1 o k o' k' → Added e (λ y. F (g y)) 1 o k o' k'
  asked-or held hit q a = at_place held (only-place c p hit) q a

  pub asked : ((y : Y) → e y p ≡ n) → (hit : Bool) → ((x : X) → F x ≡ only hit (rec c p 0)) → Added (λ (_ : Unit {0}) _. n) (λ _. only hit (rec c p 0)) 1 o k o' k' → Added e (λ y. F (g y)) 1 o k o' k'
  asked held hit q a = asked-or (λ y. inr (held y)) hit q a

  pub asked-at-or : ((y : Y) → (F (g y) ≡ []) ⊎ (e y p ≡ n)) → (hit : Option ℕ) → ((x : X) → F x ≡ hit_list hit c p) → Added (λ (_ : Unit {0}) _. n) (λ _. hit_list hit c p) 1 o k o' k' → Added e (λ y. F (g y)) 1 o k o' k'
  asked-at-or held hit q a = at_place held (hit-place c p hit) q a

  pub asked-at : ((y : Y) → e y p ≡ n) → (hit : Option ℕ) → ((x : X) → F x ≡ hit_list hit c p) → Added (λ (_ : Unit {0}) _. n) (λ _. hit_list hit c p) 1 o k o' k' → Added e (λ y. F (g y)) 1 o k o' k'
  asked-at held hit q a = asked-at-or (λ y. inr (held y)) hit q a

-- something is held wherever there is an x: all nodes by one entry
pub held_all : {X : Type 0} (e : ℕ) {from to : ℕ} → X → Held X e from to
held_all e x = record { seen = x; entries = λ _. e; held = λ i l h. refl }

-- seen otherwise, with the same entries
abbrev pub held-as : {X Y : Type 0} (g : X → Y) {e from to : ℕ} → Held X e from to → Held Y e from to
held-as g h = record { seen = g h.seen; entries = h.entries; held = h.held }

pub added-long : {X : Type 0} {e : X → ℕ → ℕ} {F : X → List Rec} {most : ℕ} {o o' : List ℕ} {k k' : ℕ} → Added e F most o k o' k' → X → length o' ≡ length o
added-long a x = laid-long (a.laid x)

-- nothing; one list after another; the same list
pub added-nothing : {X : Type 0} {e : X → ℕ → ℕ} {F : X → List Rec} {most : ℕ} {o : List ℕ} {k : ℕ} → ((x : X) → F x ≡ []) → Added e F most o k o k
added-nothing {o = o} {k = k} q = record { laid = λ x. laid_as (sym (q x)) (laid_none o k); few = omega arith }

pub added-as : {X : Type 0} {e : X → ℕ → ℕ} {F G : X → List Rec} {most : ℕ} {o o' : List ℕ} {k k' : ℕ} → ((x : X) → F x ≡ G x) → Added e F most o k o' k' → Added e G most o k o' k'
added-as q a = record { laid = λ x. laid_as (q x) (a.laid x); few = a.few }

-- more may be said to be added at most
pub added-most : {X : Type 0} {e : X → ℕ → ℕ} {F : X → List Rec} {m n : ℕ} {o o' : List ℕ} {k k' : ℕ} → m ≤ n → Added e F m o k o' k' → Added e F n o k o' k'
added-most l a = let f = a.few in record { laid = a.laid; few = omega arith }

-- seen otherwise: whichever y the nodes are seen by gives an x
pub added-by : {X Y : Type 0} {e : X → ℕ → ℕ} {F : X → List Rec} {G : Y → List Rec} {most : ℕ} {o o' : List ℕ} {k k' : ℕ} (g : Y → X) → ((y : Y) → F (g y) ≡ G y) → Added e F most o k o' k' → Added (λ y. e (g y)) G most o k o' k'
added-by g q a = record { laid = λ y. laid_as (q y) (a.laid (g y)); few = a.few }

pub added-join : {X : Type 0} {e : X → ℕ → ℕ} {F G : X → List Rec} {m n : ℕ} {o o' o'' : List ℕ} {k k' k'' : ℕ} → Added e F m o k o' k' → Added e G n o' k' o'' k'' → Added e (λ x. F x ++ G x) (m + n) o k o'' k''
added-join a b = let f = a.few in let g = b.few in record { laid = λ x. laid-join (a.laid x) (b.laid x); few = omega arith }
