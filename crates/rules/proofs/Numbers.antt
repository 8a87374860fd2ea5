-- Names by bytes. On an admitted image two names of equal bytes have one number, since names ascend strictly; and the number of a word is found by its bytes.
use Prim.Native.Nat.{ℕ, zero, suc, ◌+◌, ◌-◌, ◌<◌, ◌≤◌}
use mathlib.Core.Path.{◌≡◌, refl, ap, ◌∙◌, sym, subst}
use mathlib.Core.Bool.{Bool, true, false, true≢false}
use mathlib.Core.List.{List, [], ◌∷◌}
use native.Mathlib.Omega.{arith}
use borrow.Author.Tests.{ltb-true, ltb-false, lt-ltb, leb-true, leb-false, eqb-true, eq-eqb, ne_eqb}
use lib.Dec.{ltb, leb, eqb}
use lib.ListN.{length}
use Rattle.image.specs.Pick.{pick}
use Rattle.image.specs.Text.{less, slice, off_of, text_of, name_at, name_ok, form_of}
use Rattle.image.specs.Admit.{refusal, name_count, names_of, text_part}
use Rattle.image.proofs.Every.{both_right, every-at}
use Rattle.image.proofs.Given.{given}
use Rattle.rules.specs.Sweep.{first, same}
use Rattle.rules.specs.Names.{name_text, SameNumbers, EqualNumbers, number_of, Found, NotFound}
use Rattle.rules.proofs.Reflect.{tells-same, first-from, first-is, first-at}

pub never : (a : List ℕ) → less a a ≡ true → ⊥
unfolding less
never [] e = true≢false (sym e)
never (x ∷ a) e = never a (subst (λ (b : Bool). pick b (less a a) (ltb x x) ≡ true) (eq-eqb x x refl) e)

-- what a first byte decides
data Less (x y : ℕ) (a b : List ℕ) : Type 0 where
  earlier : x < y → Less x y a b
  equal : x ≡ y → less a b ≡ true → Less x y a b

opened : (x y : ℕ) (a b : List ℕ) → less (x ∷ a) (y ∷ b) ≡ true → Less x y a b
unfolding less
opened x y a b e = go (eqb x y) refl e
  where
    go : (t : Bool) → eqb x y ≡ t → pick t (less a b) (ltb x y) ≡ true → Less x y a b
    go true q u = equal (eqb-true x y q) u
    go false q u = earlier (ltb-true x y u)

closed-less : (x y : ℕ) (a b : List ℕ) → x < y → less (x ∷ a) (y ∷ b) ≡ true
unfolding less
closed-less x y a b l = subst (λ (t : Bool). pick t (less a b) (ltb x y) ≡ true) (sym (ne_eqb x y (λ q. omega arith))) (lt-ltb x y l)

closed-equal : (x y : ℕ) (a b : List ℕ) → x ≡ y → less a b ≡ true → less (x ∷ a) (y ∷ b) ≡ true
unfolding less
closed-equal x y a b q e = subst (λ (t : Bool). pick t (less a b) (ltb x y) ≡ true) (sym (eq-eqb x y q)) e

pub trans : (a b c : List ℕ) → less a b ≡ true → less b c ≡ true → less a c ≡ true
unfolding less
trans a b [] p q = absurd (true≢false (sym q))
trans a [] (z ∷ c) p q = absurd (true≢false (sym p))
trans [] (y ∷ b) (z ∷ c) p q = refl
trans (x ∷ a) (y ∷ b) (z ∷ c) p q = go (opened x y a b p) (opened y z b c q) (trans a b c)
  where
    go : Less x y a b → Less y z b c → (less a b ≡ true → less b c ≡ true → less a c ≡ true) → pick (eqb x z) (less a c) (ltb x z) ≡ true
    go (earlier l) (earlier m) t = closed-less x z a c (omega arith)
    go (earlier l) (equal m n) t = closed-less x z a c (omega arith)
    go (equal l n) (earlier m) t = closed-less x z a c (omega arith)
    go (equal l n) (equal m o) t = closed-equal x z a c (l ∙ m) (t n o)

module _ (s : List ℕ) (e : refusal s ≡ 0) where
  abbrev word : ℕ → List ℕ
  word k = text_of (names_of s) (text_part s) k

  -- each name is above its predecessor
  next : (k : ℕ) → k < name_count s → less (word k) (word (suc k)) ≡ true
  unfolding name_at
  next k l =
      let n = (given s e).names in
      let a = both_right (eqb (off_of (names_of s) 0) 0) _ n in
      let b = both_right (eqb (off_of (names_of s) (name_count s)) (length (text_part s))) _ a in
      let c = both_right (leb (length (text_part s)) 16384) _ b in
      let d = every-at (name_ok (names_of s) (text_part s)) (name_count s) k c l in
      let f = both_right (ltb (off_of (names_of s) k) (off_of (names_of s) (k + 1))) _ d in
      let g = both_right (leb (off_of (names_of s) (k + 1)) (length (text_part s))) _ f in
      let h = both_right (leb (off_of (names_of s) (k + 1) - off_of (names_of s) k) 128) _ g in
      let i = both_right (leb 1 (form_of (slice (text_part s) (off_of (names_of s) k) (off_of (names_of s) (k + 1))))) _ h in
      let p : k + 1 ≡ suc k = omega arith in
      let q : k ≡ suc k - 1 = omega arith in
      subst (λ (m : ℕ). less (word k) (slice (text_part s) (off_of (names_of s) m) (off_of (names_of s) (suc k))) ≡ true) q
      (subst (λ (m : ℕ). less (word k) (slice (text_part s) (off_of (names_of s) k) (off_of (names_of s) m)) ≡ true) p i)

  pub rises : (d i : ℕ) → i + suc d ≤ name_count s → less (word i) (word (i + suc d)) ≡ true
  rises zero i l = let p : suc i ≡ i + 1 = omega arith in subst (λ (m : ℕ). less (word i) (word m) ≡ true) p (next i (omega arith))
  rises (suc d) i l =
      let p : suc (i + suc d) ≡ i + suc (suc d) = omega arith in
      subst (λ (m : ℕ). less (word i) (word m) ≡ true) p (trans _ _ _ (rises d i (omega arith)) (next (i + suc d) (omega arith)))

  apart : (i j : ℕ) → i < j → j ≤ name_count s → word i ≡ word j → ⊥
  apart i j l h q =
      let p : i + suc (j - suc i) ≡ j = omega arith in
      let r : less (word i) (word j) ≡ true = subst (λ (m : ℕ). less (word i) (word m) ≡ true) p (rises (j - suc i) i (omega arith)) in
      never (word i) (subst (λ (w : List ℕ). less (word i) w ≡ true) (sym q) r)

pub same_numbers : SameNumbers
same_numbers s e i j a b q = go (ltb i j) refl (ltb j i) refl
  where
    go : (x : Bool) → ltb i j ≡ x → (y : Bool) → ltb j i ≡ y → i ≡ j
    go true u y v = absurd (apart s e i j (ltb-true i j u) b q)
    go false u true v = absurd (apart s e j i (ltb-true j i v) a (sym q))
    go false u false v = let m = ltb-false i j u in let n = ltb-false j i v in omega arith

pub equal-numbers : EqualNumbers
equal-numbers s e x y a b = (ap (name_text s), same_numbers s e x y a b)

-- The number of a word

module _ (s w : List ℕ) where
  -- the least number that has the bytes of w
  abbrev least : ℕ
  least = first (λ x. same (name_text s x) w) 1 (name_count s)

  least-is : least ≤ name_count s → name_text s least ≡ w
  least-is l = (tells-same (name_text s least) w).so (first-is (λ x. same (name_text s x) w) 1 (name_count s) (omega arith))

  least_at : (x : ℕ) → 1 ≤ x → x ≤ name_count s → name_text s x ≡ w → least ≤ x
  least_at x a b e = first-at (λ x. same (name_text s x) w) 1 (name_count s) x a (omega arith) ((tells-same (name_text s x) w).back e)

  -- the number is the least one, or 0
  data Cases (n : ℕ) : Type 0 where
    here : least ≤ name_count s → 1 ≤ n → n ≡ least → Cases n
    nowhere : name_count s < least → n ≡ 0 → Cases n

  cases : Cases (number_of s w)
  unfolding number_of
  cases = go (leb least (name_count s)) refl
    where
      go : (b : Bool) → leb least (name_count s) ≡ b → Cases (pick b least 0)
      go true e = here (leb-true least (name_count s) e) (first-from (λ x. same (name_text s x) w) 1 (name_count s)) refl
      go false e = nowhere (leb-false least (name_count s) e) refl

pub found : Found
found s e w x a b = (λ q. so (cases s w) q, λ q. back (cases s w) q)
  where
    so : Cases s w (number_of s w) → number_of s w ≡ x → name_text s x ≡ w
    so (here l g h) q = subst (λ (n : ℕ). name_text s n ≡ w) (sym h ∙ q) (least-is s w l)
    so (nowhere l h) q = absurd (omega arith)

    back : Cases s w (number_of s w) → name_text s x ≡ w → number_of s w ≡ x
    back (here l g h) q = h ∙ same_numbers s e (least s w) x l b (least-is s w l ∙ sym q)
    back (nowhere l h) q = let k = least_at s w x a b q in absurd (omega arith)

pub not_found : NotFound
not_found s w = (λ q x a b h. so (cases s w) q x a b h, λ n. back (cases s w) n)
  where
    so : Cases s w (number_of s w) → number_of s w ≡ 0 → (x : ℕ) → 1 ≤ x → x ≤ name_count s → name_text s x ≡ w → ⊥
    so (here l g h) q x a b r = omega arith
    so (nowhere l h) q x a b r = let k = least_at s w x a b r in omega arith

    back : Cases s w (number_of s w) → ((x : ℕ) → 1 ≤ x → x ≤ name_count s → name_text s x ≡ w → ⊥) → number_of s w ≡ 0
    back (here l g h) n = absurd (n (least s w) (omega arith) l (least-is s w l))
    back (nowhere l h) n = h
