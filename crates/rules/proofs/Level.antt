-- Lists in the order of their keys, put together from parts. `Level k x y l`: the list l is in order, and each of its keys begins with k and then a number from x up to y.
use Prim.Native.Nat.{ℕ, zero, suc, ◌+◌, ◌-◌, ◌<◌, ◌≤◌}
use mathlib.Core.Path.{◌≡◌, refl, ap, ◌∙◌, sym, subst}
use mathlib.Core.Bool.{Bool, true, false}
use mathlib.Core.List.Memᴰ
use mathlib.Core.List.{List, [], ◌∷◌, ◌++◌, Memᴰ}
use mathlib.Core.Logic.{◌⊎◌, inl, inr, ⊎_elim}
use native.Mathlib.Nat.{eq-or-lt_of_le}
use native.Mathlib.Omega.{arith}
use Rattle.rules.specs.Sweep.{keep, run, has}
use Rattle.rules.specs.Tree.{Tree}
use Rattle.rules.specs.Vocabulary.{Rec, only, Below, below}
use Rattle.rules.specs.All.{Before, Ordered}
use Rattle.rules.proofs.Reflect.{Finds, finds-run, finds-below, tells-has}

-- Keys

trans : (k l m : List ℕ) → Before k l → Before l m → Before k m
trans [] [] m p q = absurd p
trans [] (b ∷ l) [] p q = q
trans [] (b ∷ l) (c ∷ m) p q = tt
trans (a ∷ k) [] m p q = absurd p
trans (a ∷ k) (b ∷ l) [] p q = q
trans (a ∷ k) (b ∷ l) (c ∷ m) p q =
    ⊎_elim
    (λ (x : a < b). ⊎_elim (λ (y : b < c). inl (omega arith)) (λ (y : (b ≡ c) × Before l m). let e = y.0 in inl (omega arith)) q)
    (λ (x : (a ≡ b) × Before k l). let d = x.0 in ⊎_elim (λ (y : b < c). inl (omega arith)) (λ (y : (b ≡ c) × Before l m). inr (x.0 ∙ y.0, trans k l m x.1 y.1)) q)
    p

abbrev pub AtMost : List ℕ → List ℕ → Type 0
AtMost k l = (k ≡ l) ⊎ Before k l

before-most : (k l m : List ℕ) → Before k l → AtMost l m → Before k m
before-most k l m p = ⊎_elim (λ e. subst (Before k) e p) (λ q. trans k l m p q)

most-trans : (k l m : List ℕ) → AtMost k l → AtMost l m → AtMost k m
most-trans k l m p q = ⊎_elim (λ e. subst (λ (x : List ℕ). AtMost x m) (sym e) q) (λ b. inr (before-most k l m b q)) p

-- after the same beginning, the next number decides
at_most : (k : List ℕ) (x y : ℕ) → x ≤ y → AtMost (k ++ (x ∷ [])) (k ++ (y ∷ []))
at_most [] x y l = ⊎_elim (λ e. inl (ap (λ (n : ℕ). n ∷ []) e)) (λ h. inr (inl h)) (eq-or-lt_of_le l)
at_most (a ∷ k) x y l = ⊎_elim (λ e. inl (ap (λ (m : List ℕ). a ∷ m) e)) (λ h. inr (inr (refl, h))) (at_most k x y l)

-- what goes on after a number stands from it up to the next
begins : (k : List ℕ) (x : ℕ) → AtMost k (k ++ (x ∷ []))
begins [] x = inr tt
begins (a ∷ k) x = ⊎_elim (λ e. inl (ap (λ (n : List ℕ). a ∷ n) e)) (λ h. inr (inr (refl, h))) (begins k x)

ends : (k : List ℕ) (x y : ℕ) → Before ((k ++ (x ∷ [])) ++ (y ∷ [])) (k ++ (suc x ∷ []))
ends [] x y = inl (omega arith)
ends (a ∷ k) x y = inr (refl, ends k x y)

-- Sweeps

pub finds-self : {A : Type 0} (l : List A) → Finds l (λ r. Memᴰ r l)
finds-self l = record { so = λ r m. m; back = λ r m. m }

pub member_below : (t : Tree) (ks : List ℕ) (a : ℕ) (f : ℕ → List Rec) (r : Rec) → Memᴰ r (below t ks a f) → (i : ℕ) × Below t ks a i × Memᴰ r (f i)
member_below t ks a f r m = (finds-below t ks a (λ i. finds-self (f i))).so r m

pub test-only : (b : Bool) (x r : Rec) → Memᴰ r (only b x) → b ≡ true
unfolding only
test-only true x r m = refl
test-only false x r m = absurd (Memᴰ.not-nil m)

member-only : (b : Bool) (x r : Rec) → Memᴰ r (only b x) → r ≡ x
unfolding only
member-only true x r m = Memᴰ.eq_of_singleton m
member-only false x r m = absurd (Memᴰ.not-nil m)

pub member-keep : (b : Bool) (f : ℕ → List Rec) (i : ℕ) (r : Rec) → Memᴰ r (keep b f i) → (b ≡ true) × Memᴰ r (f i)
unfolding keep
member-keep true f i r m = (refl, m)
member-keep false f i r m = absurd (Memᴰ.not-nil m)

module _ (key : Rec → List ℕ) where
  ordered-append : (l m : List Rec) → Ordered key l → Ordered key m → ((r s : Rec) → Memᴰ r l → Memᴰ s m → Before (key r) (key s)) → Ordered key (l ++ m)
  unfolding Ordered
  ordered-append [] m a b h = b
  ordered-append (r ∷ l) m a b h = (
    λ s i. ⊎_elim (λ (x : Memᴰ s l). a.0 s x) (λ (x : Memᴰ s m). h r s (Memᴰ.head refl) x) (Memᴰ.append_cases l i),
    ordered-append l m a.1 b (λ x y p q. h x y (Memᴰ.tail p) q),
  )

  ordered-only : (b : Bool) (x : Rec) → Ordered key (only b x)
  unfolding only Ordered
  ordered-only true x = (λ s m. absurd (Memᴰ.not-nil m), tt)
  ordered-only false x = tt

  ordered-keep : (b : Bool) (f : ℕ → List Rec) (i : ℕ) → (b ≡ true → Ordered key (f i)) → Ordered key (keep b f i)
  unfolding keep Ordered
  ordered-keep true f i h = h refl
  ordered-keep false f i h = tt

  ordered-run :
      (f : ℕ → List Rec) (a n : ℕ) → ((i : ℕ) → a ≤ i → i < a + n → Ordered key (f i))
      → ((i j : ℕ) → a ≤ i → i < j → j < a + n → (r s : Rec) → Memᴰ r (f i) → Memᴰ s (f j) → Before (key r) (key s))
      → Ordered key (run f a n)
  unfolding run Ordered
  ordered-run f a zero h c = tt
  ordered-run f a (suc n) h c =
      ordered-append (run f a n) (f (a + n))
      (ordered-run f a n (λ i x y. h i x (omega arith)) (λ i j x y z. c i j x y (omega arith)))
      (h (a + n) (omega arith) (omega arith))
      (λ r s x y. let m = (finds-run a n (λ i. finds-self (f i))).so r x in let u = m.1 in let v = m.2 in c m.0 (a + n) m.1 (omega arith) (omega arith) r s m.3 y)

  ordered-below :
      (t : Tree) (ks : List ℕ) (a : ℕ) (f : ℕ → List Rec) → ((i : ℕ) → Below t ks a i → Ordered key (f i))
      → ((i j : ℕ) → Below t ks a i → Below t ks a j → i < j → (r s : Rec) → Memᴰ r (f i) → Memᴰ s (f j) → Before (key r) (key s))
      → Ordered key (below t ks a f)
  unfolding below
  ordered-below t ks a f h c =
      ordered-run (λ i. keep (has (t.kind i) ks) f i) (suc a) (t.end a - suc a)
      (λ i x y. ordered-keep (has (t.kind i) ks) f i (λ e. h i (record { after = x; inside = omega arith; kind = (tells-has (t.kind i) ks).so e })))
      (λ i j x y z r s m n.
      let u = member-keep (has (t.kind i) ks) f i r m in
      let v = member-keep (has (t.kind j) ks) f j s n in
      c i j (record { after = x; inside = omega arith; kind = (tells-has (t.kind i) ks).so u.0 })
      (record { after = omega arith; inside = omega arith; kind = (tells-has (t.kind j) ks).so v.0 }) y r s u.1 v.1)

-- Levels

pub record Level (key : Rec → List ℕ) (k : List ℕ) (x y : ℕ) (l : List Rec) : Type 0 where
  pub span : x ≤ y
  pub ordered : Ordered key l
  pub above : (r : Rec) → Memᴰ r l → AtMost (k ++ (x ∷ [])) (key r)
  pub under : (r : Rec) → Memᴰ r l → Before (key r) (k ++ (y ∷ []))

module _ {key : Rec → List ℕ} where
  pub level-between :
      {k : List ℕ} {x y z w : ℕ} {l m : List Rec} → Level key k x y l → Level key k z w m → y ≤ z
      → (r s : Rec) → Memᴰ r l → Memᴰ s m → Before (key r) (key s)
  level-between {k} {x} {y} {z} p q h r s i j =
      before-most (key r) (k ++ (y ∷ [])) (key s) (p.under r i) (most-trans (k ++ (y ∷ [])) (k ++ (z ∷ [])) (key s) (at_most k y z h) (q.above s j))

  pub level-wide : {k : List ℕ} {x y : ℕ} {l : List Rec} (u v : ℕ) → u ≤ x → y ≤ v → Level key k x y l → Level key k u v l
  level-wide {k} {x} {y} u v a b p = record {
    span = let s = p.span in omega arith;
    ordered = p.ordered;
    above = λ r i. most-trans (k ++ (u ∷ [])) (k ++ (x ∷ [])) (key r) (at_most k u x a) (p.above r i);
    under = λ r i. before-most (key r) (k ++ (y ∷ [])) (k ++ (v ∷ [])) (p.under r i) (at_most k y v b);
  }

  -- two lists of one level, if the first is before the second
  pub level-both :
      {k : List ℕ} {x y : ℕ} {l m : List Rec} → Level key k x y l → Level key k x y m
      → ((r s : Rec) → Memᴰ r l → Memᴰ s m → Before (key r) (key s)) → Level key k x y (l ++ m)
  level-both {l = l} {m = m} p q h = record {
    span = p.span;
    ordered = ordered-append key l m p.ordered q.ordered h;
    above = λ r i. ⊎_elim (p.above r) (q.above r) (Memᴰ.append_cases l i);
    under = λ r i. ⊎_elim (p.under r) (q.under r) (Memᴰ.append_cases l i);
  }

  -- one after the other
  pub level-append : {k : List ℕ} {x y z : ℕ} {l m : List Rec} → Level key k x y l → Level key k y z m → Level key k x z (l ++ m)
  level-append {x = x} {y = y} {z = z} p q =
      let a = p.span in
      let b = q.span in
      level-both (level-wide x z (omega arith) (omega arith) p) (level-wide x z (omega arith) (omega arith) q) (level-between p q (omega arith))

  -- one level up: what goes on after x
  pub level-up : {k : List ℕ} {x y z : ℕ} {l : List Rec} → Level key (k ++ (x ∷ [])) y z l → Level key k x (suc x) l
  level-up {k} {x} {y} {z} p = record {
    span = omega arith;
    ordered = p.ordered;
    above = λ r i. most-trans (k ++ (x ∷ [])) ((k ++ (x ∷ [])) ++ (y ∷ [])) (key r) (begins (k ++ (x ∷ [])) y) (p.above r i);
    under = λ r i. trans (key r) ((k ++ (x ∷ [])) ++ (z ∷ [])) (k ++ (suc x ∷ [])) (p.under r i) (ends k x z);
  }

  pub level-none : {k : List ℕ} {x y : ℕ} → x ≤ y → Level key k x y []
  unfolding Ordered
  level-none h = record { span = h; ordered = tt; above = λ r m. absurd (Memᴰ.not-nil m); under = λ r m. absurd (Memᴰ.not-nil m) }

  pub level-only : {k : List ℕ} (b : Bool) (x : Rec) (p : ℕ) → key x ≡ k ++ (p ∷ []) → Level key k p (suc p) (only b x)
  level-only {k} b x p e = record {
    span = omega arith;
    ordered = ordered-only key b x;
    above = λ r m. inl (sym (ap key (member-only b x r m) ∙ e));
    under = λ r m. subst (λ (n : List ℕ). Before n (k ++ (suc p ∷ []))) (sym (ap key (member-only b x r m) ∙ e)) (last k p);
  }
    where
      last : (k : List ℕ) (p : ℕ) → Before (k ++ (p ∷ [])) (k ++ (suc p ∷ []))
      last [] p = inl (omega arith)
      last (a ∷ k) p = inr (refl, last k p)

  pub level-keep : {k : List ℕ} {x y : ℕ} (b : Bool) (f : ℕ → List Rec) (i : ℕ) → x ≤ y → (b ≡ true → Level key k x y (f i)) → Level key k x y (keep b f i)
  unfolding keep
  level-keep true f i l h = h refl
  level-keep false f i l h = level-none l

  -- a sweep whose nodes' ranges follow one another
  pub level-below :
      {k : List ℕ} {t : Tree} {ks : List ℕ} {a : ℕ} {f : ℕ → List Rec} (x y : ℕ) (lo hi : ℕ → ℕ) → x ≤ y → ((i : ℕ) → Below t ks a i → Level key k (lo i) (hi i) (f i))
      → ((i j : ℕ) → Below t ks a i → Below t ks a j → i < j → hi i ≤ lo j) → ((i : ℕ) → Below t ks a i → (x ≤ lo i) × (hi i ≤ y))
      → Level key k x y (below t ks a f)
  level-below {k} {t} {ks} {a} {f} x y lo hi n h c d = record {
    span = n;
    ordered = ordered-below key t ks a f (λ i b. (h i b).ordered) (λ i j b e l. level-between (h i b) (h j e) (c i j b e l));
    above = λ r m. let u = member_below t ks a f r m in (level-wide x y (d u.0 u.1).0 (d u.0 u.1).1 (h u.0 u.1)).above r u.2;
    under = λ r m. let u = member_below t ks a f r m in (level-wide x y (d u.0 u.1).0 (d u.0 u.1).1 (h u.0 u.1)).under r u.2;
  }

  -- from places up to groups
  pub group : {a b c x y : ℕ} {l : List Rec} → Level key (a ∷ b ∷ c ∷ []) x y l → Level key [] a (suc a) l
  group {a} {b} {c} p = level-up {k = []} {x = a} (level-up {k = a ∷ []} {x = b} (level-up {k = a ∷ b ∷ []} {x = c} p))
