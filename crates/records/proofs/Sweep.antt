-- A sweep over the nodes from a on: what it has laid, one invariant for every loop, and what stands below a node.
use Prim.Native.Nat.{ℕ, zero, suc, ◌+◌, ◌*◌, ◌-◌, ◌<◌, ◌≤◌}
use mathlib.Core.List.{List, [], ◌∷◌, ◌++◌, append-nil, append_assoc}
use mathlib.Core.Path.{◌≡◌, refl, ap, ◌∙◌, sym}
use mathlib.Core.Bool.{Bool, true, false}
use lib.ListN.{length}
use native.Mathlib.Nat.{sub_self}
use native.Mathlib.Numerals.{add-one, unary_clauses}
use native.Mathlib.Omega.{arith}
use mathlib.Core.Logic.{◌⊎◌, inl, inr}
use borrow.Author.Tests.{eq-eqb, ne_eqb, eqb-true, eqb-false}
use lib.Dec.{eqb}
use Rattle.rules.specs.Sweep.{run, keep, has}
use Rattle.rules.specs.Tree.{Tree}
use Rattle.rules.specs.Vocabulary.{Rec, only, below}
use Rattle.records.specs.Records.{Laid, Added}
use Rattle.records.proofs.Laws.{laid_none, laid-join, laid_as, laid-long}

pub run_none : {A : Type 0} (f : ℕ → List A) (a : ℕ) → run f a 0 ≡ []
unfolding run
run_none f a = refl

pub run-next : {A : Type 0} (f : ℕ → List A) (a n : ℕ) → run f a (n + 1) ≡ run f a n ++ f (a + n)
unfolding run
run-next f a n = ap (run f a) (add-one n)

-- nodes that contribute nothing can be left out, at the front of a range or at its back
pub run-empty : {A : Type 0} (f : ℕ → List A) (a n : ℕ) → ((i : ℕ) → a ≤ i → i < a + n → f i ≡ []) → run f a n ≡ []
unfolding run
run-empty f a zero h = refl
run-empty f a (suc n) h = rw (run-empty f a n (λ i l g. h i l (omega arith))) (h (a + n) (omega arith) (omega arith))

pub run-split : {A : Type 0} (f : ℕ → List A) (a m n : ℕ) → run f a (m + n) ≡ run f a m ++ run f (a + m) n
unfolding run
run-split f a m zero = let e : m + zero ≡ m = omega arith in ap (run f a) e ∙ sym (append-nil (run f a m))
run-split {A} f a m (suc n) =
    let e : m + suc n ≡ suc (m + n) = omega arith in
    let z : a + (m + n) ≡ a + m + n = omega arith in
    ap (run f a) e ∙ ap (λ (l : List A). l ++ f (a + (m + n))) (run-split f a m n) ∙ append_assoc (run f a m) (run f (a + m) n) (f (a + (m + n)))
    ∙ ap (λ (j : ℕ). run f a m ++ (run f (a + m) n ++ f j)) z

pub run-parts : {A : Type 0} (f : ℕ → List A) (a b e : ℕ) → a ≤ b → b ≤ e → run f a (e - a) ≡ run f a (b - a) ++ run f b (e - b)
run-parts {A} f a b e l h =
    let x : e - a ≡ b - a + (e - b) = omega arith in
    let y : a + (b - a) ≡ b = omega arith in
    ap (run f a) x ∙ run-split f a (b - a) (e - b) ∙ ap (λ (j : ℕ). run f a (b - a) ++ run f j (e - b)) y

pub run-later : {A : Type 0} (f : ℕ → List A) (a b e : ℕ) → a ≤ b → b ≤ e → ((i : ℕ) → a ≤ i → i < b → f i ≡ []) → run f a (e - a) ≡ run f b (e - b)
run-later {A} f a b e l h g =
    run-parts f a b e l h ∙ ap (λ (m : List A). m ++ run f b (e - b)) (run-empty f a (b - a) (λ i p q. g i p (omega arith)))

pub run-sooner : {A : Type 0} (f : ℕ → List A) (a b e : ℕ) → a ≤ b → b ≤ e → ((i : ℕ) → b ≤ i → i < e → f i ≡ []) → run f a (e - a) ≡ run f a (b - a)
run-sooner {A} f a b e l h g =
    run-parts f a b e l h ∙ ap (λ (m : List A). run f a (b - a) ++ m) (run-empty f b (e - b) (λ i p q. g i p (omega arith))) ∙ append-nil (run f a (b - a))

-- one more node contributes, and none up to q
pub run_on : {A : Type 0} (f : ℕ → List A) (a p q : ℕ) → a ≤ p → p < q → ((i : ℕ) → p < i → i < q → f i ≡ []) → run f a (q - a) ≡ run f a (p - a) ++ f p
run_on f a p q l h g =
    let e : p + 1 - a ≡ p - a + 1 = omega arith in
    let d : a + (p - a) ≡ p = omega arith in
    run-sooner f a (p + 1) q (omega arith) (omega arith) (λ i m n. g i (omega arith) n) ∙ ap (run f a) e ∙ run-next f a (p - a) ∙ ap (λ (j : ℕ). run f a (p - a) ++ f j) d

pub run-one : {A : Type 0} (f : ℕ → List A) (a : ℕ) → run f a (a + 1 - a) ≡ f a
unfolding run
run-one f a = let e : a + 1 - a ≡ 1 = omega arith in let z : a + 0 ≡ a = omega arith in ap (run f a) e ∙ ap f z

pub run-same : {A : Type 0} (f g : ℕ → List A) (a n : ℕ) → ((i : ℕ) → a ≤ i → i < a + n → f i ≡ g i) → run f a n ≡ run g a n
unfolding run
run-same f g a zero h = refl
run-same f g a (suc n) h = rw (run-same f g a n (λ i l k. h i l (omega arith)), h (a + n) (omega arith) (omega arith))

-- What is said of a buffer by some L: that the k₀ before, in o₀, are followed by l, and so o stands, with k in all. Nothing may follow,
-- and one list another.
pub record Follows {A : Type 0} (L : List ℕ → ℕ → List A → List ℕ → ℕ → Type 0) : Type 0 where
  pub none : (o : List ℕ) (k : ℕ) → L o k [] o k
  pub join : {o₀ o₁ o₂ : List ℕ} {k₀ k₁ k₂ : ℕ} {a b : List A} → L o₀ k₀ a o₁ k₁ → L o₁ k₁ b o₂ k₂ → L o₀ k₀ (a ++ b) o₂ k₂

-- The invariant of every sweep: the nodes from `from` up to p have contributed F, each at most `most`, whichever x the nodes are seen by (an image; an image and an entry; ..).
pub record Sweeps {A X : Type 0} (L : X → List ℕ → ℕ → List A → List ℕ → ℕ → Type 0) (F : X → ℕ → List A) (from to most : ℕ) (o₀ : List ℕ) (k₀ : ℕ) (o : List ℕ) (k p : ℕ) : Type 0 where
  pub low : from ≤ p
  pub high : p ≤ to
  pub few : k ≤ k₀ + most * (p - from)
  pub laid : (x : X) → L x o₀ k₀ (run (F x) from (p - from)) o k

more : (most d m : ℕ) → d < m → most * d + most ≤ most * m
more most d (suc m) h = let z : d ≤ m = omega arith in let y : most * suc m ≡ most * m + most = simp unary_clauses (omega arith) in go most d m z y
  where
    go : (most d m : ℕ) → d ≤ m → most * suc m ≡ most * m + most → most * d + most ≤ most * suc m
    go most d m z y = let w = times most d m z in omega arith
      where
        times : (most d m : ℕ) → d ≤ m → most * d ≤ most * m
        times most d zero h = let z : d ≡ 0 = omega arith in rw z (omega arith)
        times most zero (suc m) h = let z : most * zero ≡ 0 = omega arith in omega arith
        times most (suc d) (suc m) h =
            let a : most * suc m ≡ most * m + most = simp unary_clauses (omega arith) in
            let b : most * suc d ≡ most * d + most = simp unary_clauses (omega arith) in
            let i = times most d m (omega arith) in
            omega arith
more most d zero h = absurd (omega arith)

module _ {A X : Type 0} {L : X → List ℕ → ℕ → List A → List ℕ → ℕ → Type 0} (follows : (x : X) → Follows (L x)) {F : X → ℕ → List A} {from to most : ℕ} {o₀ : List ℕ} {k₀ : ℕ} where
  pub sweeps-start : from ≤ to → Sweeps L F from to most o₀ k₀ o₀ k₀ from
  sweeps-start h = record {
    low = omega arith;
    high = h;
    few = omega arith;
    laid = λ x. rw (sub_self from) (rw run_none ((follows x).none o₀ k₀));
  }

  -- on to q, past nodes that contribute nothing: the next child
  pub sweeps-on : {o o' : List ℕ} {k k' p q : ℕ} → Sweeps L F from to most o₀ k₀ o k p → k' ≤ k + most → ((x : X) → L x o k (F x p) o' k')
      → p < q → q ≤ to → ((x : X) (i : ℕ) → p < i → i < q → F x i ≡ []) → Sweeps L F from to most o₀ k₀ o' k' q
  sweeps-on {o} {o'} {k} {k'} {p} {q} w f a g h z =
      let i = w.low in
      let j = w.few in
      let m = more most (p - from) (q - from) (omega arith) in
      record {
        low = omega arith;
        high = h;
        few = omega arith;
        laid = λ x. rw (run_on (F x) from p q i g (z x)) ((follows x).join (w.laid x) (a x));
      }

  pub sweeps-again : {o o' : List ℕ} {k k' p : ℕ} → Sweeps L F from to most o₀ k₀ o k p → k' ≤ k + most → ((x : X) → L x o k (F x p) o' k') → p < to
      → Sweeps L F from to most o₀ k₀ o' k' (p + 1)
  sweeps-again w f a h = sweeps-on w f a (omega arith) (omega arith) (λ x i b c. absurd (omega arith))

  pub sweeps-done : {o : List ℕ} {k p : ℕ} → Sweeps L F from to most o₀ k₀ o k p → to ≤ p → (k ≤ k₀ + most * (to - from)) × ((x : X) → L x o₀ k₀ (run (F x) from (to - from)) o k)
  sweeps-done {o} {k} {p} w h = let i = w.high in let e : p ≡ to = omega arith in (rw e at w.few, λ x. rw e at (w.laid x))

-- of a list's records, with the entries that e gives
abbrev pub Sweeping : {X : Type 0} (e : X → ℕ → ℕ) (F : X → ℕ → List Rec) (from to most : ℕ) (o₀ : List ℕ) (k₀ : ℕ) (o : List ℕ) (k p : ℕ) → Type 0
Sweeping e F from to most o₀ k₀ o k p = Sweeps (λ x. Laid (e x)) F from to most o₀ k₀ o k p

laid-follows : (e : ℕ → ℕ) → Follows (Laid e)
laid-follows e = record { none = laid_none; join = laid-join }

module _ {X : Type 0} {e : X → ℕ → ℕ} {F : X → ℕ → List Rec} {from to most : ℕ} {o₀ : List ℕ} {k₀ : ℕ} where
  pub sweep-starts : from ≤ to → Sweeping e F from to most o₀ k₀ o₀ k₀ from
  sweep-starts h = sweeps-start (λ x. laid-follows (e x)) h

  pub sweep-on : {o o' : List ℕ} {k k' p q : ℕ} → Sweeping e F from to most o₀ k₀ o k p → Added e (λ x. F x p) most o k o' k'
      → p < q → q ≤ to → ((x : X) (i : ℕ) → p < i → i < q → F x i ≡ []) → Sweeping e F from to most o₀ k₀ o' k' q
  sweep-on w a g h z = sweeps-on (λ x. laid-follows (e x)) w a.few a.laid g h z

  pub sweep-again : {o o' : List ℕ} {k k' p : ℕ} → Sweeping e F from to most o₀ k₀ o k p → Added e (λ x. F x p) most o k o' k' → p < to
      → Sweeping e F from to most o₀ k₀ o' k' (p + 1)
  sweep-again w a h = sweeps-again (λ x. laid-follows (e x)) w a.few a.laid h

  pub sweep-done : {o : List ℕ} {k p : ℕ} → Sweeping e F from to most o₀ k₀ o k p → to ≤ p → (x : X) → Laid (e x) o₀ k₀ (run (F x) from (to - from)) o k
  sweep-done w h = (sweeps-done (λ x. laid-follows (e x)) w h).1

  -- what the whole of it adds
  pub swept : {G : X → List Rec} {all : ℕ} {o : List ℕ} {k p : ℕ} → Sweeping e F from to most o₀ k₀ o k p → to ≤ p → ((x : X) → run (F x) from (to - from) ≡ G x) → most * (to - from) ≤ all → Added e G all o₀ k₀ o k
  swept w h g m = let f = (sweeps-done (λ x. laid-follows (e x)) w h).0 in record { laid = λ x. laid_as (g x) (sweep-done w h x); few = omega arith }

  pub sweep-long : {o : List ℕ} {k p : ℕ} → Sweeping e F from to most o₀ k₀ o k p → X → length o ≡ length o₀
  sweep-long w x = laid-long (w.laid x)

-- One node's part in a sweep: the test of its kind.
pub has_one : (k j : ℕ) → k ≡ j → has k (j ∷ []) ≡ true
unfolding has
has_one k j e = simp (eq-eqb k j e)

pub has-not : (k j : ℕ) → (k ≡ j → ⊥) → has k (j ∷ []) ≡ false
unfolding has
has-not k j n = simp (ne_eqb k j n)

pub keep-none : {A : Type 0} {b : Bool} (f : ℕ → List A) (p : ℕ) → b ≡ false → keep b f p ≡ []
unfolding keep
keep-none f p e = rw e

pub keep_one : {A : Type 0} {b : Bool} (f : ℕ → List A) (p : ℕ) → b ≡ true → keep b f p ≡ f p
unfolding keep
keep_one f p e = rw e

-- nothing is kept at a node of another kind; at one of this kind, P holds
pub keep-or : {A P : Type 0} {k : ℕ} (j : ℕ) (f : ℕ → List A) (p : ℕ) → (k ≡ j → P) → (keep (has k (j ∷ [])) f p ≡ []) ⊎ P
keep-or {A} {P} {k} j f p h = go (eqb k j) refl
  where
    go : (b : Bool) → eqb k j ≡ b → (keep (has k (j ∷ [])) f p ≡ []) ⊎ P
    go true e = inr (h (eqb-true k j e))
    go false e = inl (keep-none f p (has-not k j (eqb-false k j e)))

-- a rule asked at a node of another kind; of its kind
module _ {k j : ℕ} (f : ℕ → List Rec) (p : ℕ) (r : Rec) where
  pub asks-other : (k ≡ j → ⊥) → keep (has k (j ∷ [])) f p ≡ only false r
  unfolding only
  asks-other n = keep-none f p (has-not k j n)

  pub asks-here : (hit : Bool) → k ≡ j → f p ≡ only hit r → keep (has k (j ∷ [])) f p ≡ only hit r
  asks-here hit e d = keep_one f p (has_one k j e) ∙ d

-- a sweep over the nodes of a range, each kept by its kind, is what stands below its node
pub run-below : (t : Tree) (ks : List ℕ) (f : ℕ → List Rec) (a from to : ℕ) → from ≡ a + 1 → to ≡ t.end a → run (λ i. keep (has (t.kind i) ks) f i) from (to - from) ≡ below t ks a f
unfolding below
run-below t ks f a from to d e = let z : from ≡ suc a = omega arith in rw (e, z)

-- also where the sweep starts later, past nodes that are not of these kinds
pub run-below-later : (t : Tree) (ks : List ℕ) (f : ℕ → List Rec) (a from : ℕ) → a < from → from ≤ t.end a → ((i : ℕ) → a < i → i < from → has (t.kind i) ks ≡ false)
    → run (λ i. keep (has (t.kind i) ks) f i) from (t.end a - from) ≡ below t ks a f
run-below-later t ks f a from g h z =
    sym (run-later (λ i. keep (has (t.kind i) ks) f i) (a + 1) from (t.end a) (omega arith) h (λ i b c. keep-none f i (z i (omega arith) c))) ∙ run-below t ks f a (a + 1) (t.end a) refl refl
