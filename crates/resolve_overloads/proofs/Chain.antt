-- The entries met so far, found by their key: the tables entry by entry, and the walk from the last of a key to the first.
use Prim.Native.Nat.{ℕ, zero, suc, ◌+◌, ◌-◌, ◌%◌, ◌<◌, ◌≤◌}
use native.Mathlib.Omega.{arith}
use native.Mathlib.Numerals.{add-one}
use native.Mathlib.Nat.{eq-or-lt_of_le}
use mathlib.Core.Path.{◌≡◌, refl, sym, ap, ◌∙◌, subst}
use mathlib.Core.Bool.{Bool, true, false, true≢false}
use mathlib.Core.List.Memᴰ
use mathlib.Core.List.{List}
use mathlib.Core.Logic.{◌⊎◌, ⊎_elim}
use borrow.Author.Tests.{eq-eqb, ne_eqb, eqb-true, ltb-true}
use lib.Dec.{eqb, ltb}
use lib.ListN.{get_or, set, replicate, length-set, length-replicate, get_or-replicate}
use lib.Seq.{get_or-set_same, get_or-set_other}
use Rattle.image.specs.Pick.{pick}
use Rattle.image.proofs.Decide.{eq-or-ne, lt-or-ge}
use Rattle.rules.specs.Sweep.{also, has}
use Rattle.rules.specs.Tree.{tree, entry}
use Rattle.rules.proofs.Reflect.{tells-has}
use Rattle.signature.specs.Alike.{signed_as}
use Rattle.resolve_overloads.specs.Keys.{key_of, slot, last, is_new, falls_to, Chains}

pub also-both : (b : Bool) (p : ℕ → Bool) (i : ℕ) → also b p i ≡ true → (b ≡ true) × (p i ≡ true)
also-both true p i e = (refl, e)
also-both false p i e = absurd (true≢false (sym e))

pub slot-low : (k : ℕ) → slot k < 4096
unfolding slot
slot-low k = go (ltb k 2048) refl
  where
    go : (b : Bool) → ltb k 2048 ≡ b → pick b k (2048 + k % 2048) < 4096
    go true e = let l = ltb-true k 2048 e in omega arith
    go false e = omega arith

-- the last number that passes a test
module _ (f : ℕ → Bool) where
  last-next : (n : ℕ) → last f (n + 1) ≡ pick (f n) n (last f n)
  unfolding last
  last-next n = ap (last f) (add-one n)

  pub last-low : (n : ℕ) → 0 < n → last f n < n
  unfolding last
  last-low zero h = absurd (omega arith)
  last-low (suc n) h = go (f n) (lt-or-ge 0 n) (last-low n)
    where
      go : (b : Bool) → (0 < n) ⊎ (n ≤ 0) → (0 < n → last f n < n) → pick b n (last f n) < suc n
      go true c i = omega arith
      go false c i = ⊎_elim (λ (l : 0 < n). let r = i l in omega arith) (λ (l : n ≤ 0). let z : n ≡ 0 = omega arith in rw z (omega arith)) c

  pub last-is : (n : ℕ) → 0 < last f n → f (last f n) ≡ true
  unfolding last
  last-is zero h = absurd (omega arith)
  last-is (suc n) h = go (f n) refl (last-is n) h
    where
      go : (b : Bool) → f n ≡ b → (0 < last f n → f (last f n) ≡ true) → 0 < pick b n (last f n) → f (pick b n (last f n)) ≡ true
      go true e i h = e
      go false e i h = i h

  pub last-past : (n i : ℕ) → last f n < i → i < n → f i ≡ false
  unfolding last
  last-past zero i l h = absurd (omega arith)
  last-past (suc n) i l h = go (f n) refl (last-past n i) l
    where
      go : (b : Bool) → f n ≡ b → (last f n < i → i < n → f i ≡ false) → pick b n (last f n) < i → f i ≡ false
      go true e m l = absurd (omega arith)
      go false e m l = ⊎_elim (λ (d : i ≡ n). ap f d ∙ e) (λ (d : i ≡ n → ⊥). m l (omega (arith, d))) (eq-or-ne i n)

  last-still : (a n : ℕ) → ((j : ℕ) → a ≤ j → j < a + n → f j ≡ false) → last f (a + n) ≡ last f a
  unfolding last
  last-still a zero g = let z : a + zero ≡ a = omega arith in ap (last f) z
  last-still a (suc n) g =
      let z : a + suc n ≡ suc (a + n) = omega arith in
      ap (last f) z ∙ ap (λ (b : Bool). pick b (a + n) (last f (a + n))) (g (a + n) (omega arith) (omega arith)) ∙ last-still a n (λ j l h. g j l (omega arith))

module _ (s : List ℕ) where
  -- before the first entry
  pub chains-none : Chains s 1 (replicate 4096 0) (replicate 2048 0) (replicate 2048 0)
  unfolding last
  chains-none = record {
    sizes = (length-replicate {A = ℕ} 4096 0, length-replicate {A = ℕ} 2048 0, length-replicate {A = ℕ} 2048 0);
    head = λ b l. get_or-replicate 4096 b 0 0 l ∙ sym (zero_is (falls_to s b 0));
    link = λ i l h e. absurd (omega arith);
    key = λ i l h e. absurd (omega arith);
  }
    where
      zero_is : (b : Bool) → pick {A = ℕ} b 0 0 ≡ 0
      zero_is true = refl
      zero_is false = refl

  module _ {p : ℕ} {heads links keys : List ℕ} (C : Chains s p heads links keys) where
    -- past nodes that are not entered
    pub chains-still : {q : ℕ} → p ≤ q → ((j : ℕ) → p ≤ j → j < q → is_new s j ≡ false) → Chains s q heads links keys
    chains-still {q} l n = record {
      sizes = C.sizes;
      head = λ b h. let z : p + (q - p) ≡ q = omega arith in C.head b h ∙ sym (last-still (falls_to s b) p (q - p) (λ j x y. ap (λ (w : Bool). also w (λ e. eqb (slot (key_of s e)) b) j) (n j x (omega arith)))) ∙ ap (last (falls_to s b)) z;
      link = λ i x h e. C.link i x (older i h e) e;
      key = λ i x h e. C.key i x (older i h e) e;
    }
      where
        older : (i : ℕ) → i < q → is_new s i ≡ true → i < p
        older i h e = ⊎_elim (λ (x : i < p). x) (λ (x : p ≤ i). absurd (true≢false (sym e ∙ n i x h))) (lt-or-ge i p)

    pub chains-skip : is_new s p ≡ false → Chains s (p + 1) heads links keys
    chains-skip f = chains-still (omega arith) (λ j a b. let z : p ≡ j = omega arith in subst (λ (x : ℕ). is_new s x ≡ false) z f)

    pub chains-as : {heads' links' keys' : List ℕ} → heads' ≡ heads → links' ≡ links → keys' ≡ keys → Chains s p heads' links' keys'
    chains-as a b c = rw (a, b, c) C

    -- the entry p is entered
    module _ {k : ℕ} (d : k ≡ key_of s p) (e : is_new s p ≡ true) (l : p < 2048) where
      falls : (b : ℕ) → falls_to s b p ≡ eqb (slot (key_of s p)) b
      falls b = ap (λ (w : Bool). also w (λ e. eqb (slot (key_of s e)) b) p) e

      pub chains-enter : Chains s (p + 1) (set heads (slot k) p) (set links p (get_or heads (slot k) 0)) (set keys p k)
      chains-enter =
          let z = C.sizes in
          record {
            sizes = (length-set heads (slot k) p ∙ z.0, length-set links p (get_or heads (slot k) 0) ∙ z.1, length-set keys p k ∙ z.2);
            head = λ b h.
                ⊎_elim
                (λ (q : b ≡ slot k). rw q (get_or-set_same heads (slot k) p 0 (let z0 = z.0 in let l0 = slot-low k in omega arith)) ∙ sym (last-next (falls_to s b) p ∙ ap (λ (w : Bool). pick w p (last (falls_to s b) p)) (falls b ∙ eq-eqb (slot (key_of s p)) b (ap slot (sym d) ∙ sym q))))
                (λ (q : b ≡ slot k → ⊥). get_or-set_other heads (slot k) b p 0 q ∙ C.head b h ∙ sym (last-next (falls_to s b) p ∙ ap (λ (w : Bool). pick w p (last (falls_to s b) p)) (falls b ∙ ne_eqb (slot (key_of s p)) b (λ c. q (sym c ∙ ap slot (sym d))))))
                (eq-or-ne b (slot k));
            link = λ i x h n.
                ⊎_elim
                (λ (q : i ≡ p).
                subst (λ (j : ℕ). get_or (set links p (get_or heads (slot k) 0)) j 0 ≡ last (falls_to s (slot (key_of s j))) j) (sym q)
                (get_or-set_same links p (get_or heads (slot k) 0) 0 (let z1 = z.1 in omega arith) ∙ C.head (slot k) (slot-low k) ∙ ap (λ (w : ℕ). last (falls_to s (slot w)) p) d))
                (λ (q : i ≡ p → ⊥). get_or-set_other links p i (get_or heads (slot k) 0) 0 q ∙ C.link i x (omega (arith, q)) n)
                (eq-or-ne i p);
            key = λ i x h n.
                ⊎_elim
                (λ (q : i ≡ p). subst (λ (j : ℕ). get_or (set keys p k) j 0 ≡ key_of s j) (sym q) (get_or-set_same keys p k 0 (let z2 = z.2 in omega arith) ∙ d))
                (λ (q : i ≡ p → ⊥). get_or-set_other keys p i k 0 q ∙ C.key i x (omega (arith, q)) n)
                (eq-or-ne i p);
          }

-- The walk that seeks the entry e has come to g: no entry after g, of those whose key falls to b, has e's signature.
pub record Seeking (s : List ℕ) (e b g : ℕ) : Type 0 where
  pub at : 0 < g → falls_to s b g ≡ true
  pub past : (i : ℕ) → g < i → i < e → falls_to s b i ≡ true → signed_as (tree s) e i ≡ false

module _ {s : List ℕ} {e : ℕ} {heads links keys : List ℕ} (C : Chains s e heads links keys) {b g : ℕ} where
  -- from the last below n on
  seek-last : {n : ℕ} → g ≡ last (falls_to s b) n → ((i : ℕ) → n ≤ i → i < e → falls_to s b i ≡ true → signed_as (tree s) e i ≡ false) → Seeking s e b g
  seek-last {n} d f = record {
    at = λ l. subst (λ (x : ℕ). falls_to s b x ≡ true) (sym d) (last-is (falls_to s b) n (omega arith));
    past = λ i l h t. ⊎_elim (λ (x : i < n). absurd (true≢false (sym t ∙ last-past (falls_to s b) n i (omega arith) x))) (λ (x : n ≤ i). f i x h t) (lt-or-ge i n);
  }

  pub seek-start : b < 4096 → 0 < e → g ≡ get_or heads b 0 → (g < e) × Seeking s e b g
  seek-start l z d =
      let x = d ∙ C.head b l in
      let y = last-low (falls_to s b) e z in
      (omega arith, seek-last x (λ i a c t. absurd (omega arith)))

module _ {s : List ℕ} {e : ℕ} {heads links keys : List ℕ} (C : Chains s e heads links keys) {b g : ℕ} (S : Seeking s e b g) (l : 0 < g) (h : g < e) where
  pub seek-new : is_new s g ≡ true
  seek-new = (also-both (is_new s g) (λ e. eqb (slot (key_of s e)) b) g (S.at l)).0

  pub seek-entry : (tree s).kind g ≡ 9
  seek-entry = Memᴰ.eq_of_singleton ((tells-has ((tree s).kind g) entry).so (also-both (has ((tree s).kind g) entry) _ g seek-new).0)

  -- the one before g
  pub seek-on : {r : ℕ} → r ≡ get_or links g 0 → signed_as (tree s) e g ≡ false → (r < g) × Seeking s e b r
  seek-on {r} d f =
      let k = eqb-true (slot (key_of s g)) b (also-both (is_new s g) (λ e. eqb (slot (key_of s e)) b) g (S.at l)).1 in
      let x : r ≡ last (falls_to s b) g = d ∙ C.link g l h seek-new ∙ ap (λ (w : ℕ). last (falls_to s w) g) k in
      let y = last-low (falls_to s b) g l in
      (omega arith, seek-last C x (λ i a c t. ⊎_elim (λ (q : g ≡ i). subst (λ (j : ℕ). signed_as (tree s) e j ≡ false) q f) (λ (q : g < i). S.past i q c t) (eq-or-lt_of_le a)))
