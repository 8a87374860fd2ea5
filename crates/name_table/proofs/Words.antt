-- The forms of the names (document 01, refusal 5), judged by the whole text: where every byte of it is of a class each name is of a form, and the other way round, since the names tile the text.
use Prim.Native.Nat.{ℕ, zero, suc, ◌+◌, ◌-◌, ◌<◌, ◌≤◌}
use mathlib.Core.Path.{◌≡◌, refl, ap, ◌∙◌, sym}
use mathlib.Core.Bool.{Bool, true, false, true≢false}
use mathlib.Core.List.{List}
use mathlib.Core.Logic.{⊎_elim}
use native.Mathlib.Numerals.{add-one}
use native.Mathlib.Omega.{arith}
use borrow.Author.Tests.{eqb-true, le-leb, lt-ltb, le-ltb, leb-true}
use lib.Dec.{ltb, leb, eqb}
use lib.ListN.{length, get_or, drop, length-take, length-drop}
use lib.Seq.{get_or-take, get_or-drop}
use Rattle.std.specs.Ordering.{ord_min, nat_cmp}
use Rattle.std.proofs.lemmas.Bool.Decides.{nat_tests}
use Rattle.image.specs.Pick.{pick, both, every}
use Rattle.name_table.specs.Bytes.{all_words}
use Rattle.image.specs.Text.{class_of, word_at, form_of, slice, off_of, names_ok}
use Rattle.image.proofs.Decide.{lt-or-ge}
use Rattle.image.proofs.Every.{both_left, both_right, every-next, every-so, every-at}
use Rattle.image.proofs.Tree.{named}

-- the lower of two classes is one exactly when both are
lower-both : (c d : ℕ) → leb 1 (pick (ltb c d) c d) ≡ both (leb 1 d) (leb 1 c)
lower-both c d =
    ⊎_elim (λ (h : c < d). simp (lt-ltb c d h, le-leb 1 d (omega arith)))
    (λ (h : d ≤ c). rw (le-ltb c d h) (go (leb 1 d) refl h))
    (lt-or-ge c d)
  where
    go : (b : Bool) → leb 1 d ≡ b → d ≤ c → b ≡ both b (leb 1 c)
    go true e h = let l = leb-true 1 d e in sym (le-leb 1 c (omega arith))
    go false e h = refl

-- `min`, by the test of `<`
min-picks : (d c : ℕ) → ord_min nat_cmp d c ≡ pick (ltb c d) c d
min-picks d c = ⊎_elim (λ (h : c < d). simp (lt-ltb c d h)) (λ (h : d ≤ c). grind (arith, nat_tests)) (lt-or-ge c d)

-- one byte more of a text, of class c
pub low-more : (t : List ℕ) (k c d low : ℕ) → leb 1 d ≡ every (word_at t) k → c ≡ class_of (get_or t k 0) → low ≡ ord_min nat_cmp d c → leb 1 low ≡ every (word_at t) (k + 1)
unfolding word_at
low-more t k c d low e is lower = ap (leb 1) (lower ∙ min-picks d c) ∙ lower-both c d ∙ ap (λ (b : Bool). both b (leb 1 c)) e ∙ ap (λ (x : ℕ). both (every (word_at t) k) (leb 1 x)) is ∙ sym (every-next (word_at t) k)

-- the bytes of a part of a text
module _ (t : List ℕ) (a b : ℕ) (l : a < b) (h : b ≤ length t) where
  part-long : length (slice t a b) ≡ b - a
  part-long = simp (length-take, length-drop) (omega arith)

  part-word : (i : ℕ) → i < b - a → word_at (slice t a b) i ≡ word_at t (a + i)
  unfolding word_at
  part-word i g = ap (λ (x : ℕ). leb 1 (class_of x)) (get_or-take (b - a) (drop a t) i 0 g ∙ get_or-drop a t i 0)

  pub part-form : all_words t ≡ true → 1 ≤ form_of (slice t a b)
  unfolding all_words word_at
  part-form w =
      let n = part-long in
      let e = every-so (word_at (slice t a b)) (length (slice t a b)) (λ k g. part-word k (omega arith) ∙ every-at (word_at t) (length t) (a + k) w (omega arith)) in
      rw e (leb-true 1 _ (every-at (word_at (slice t a b)) (length (slice t a b)) 0 e (omega arith)))

  form-words : 1 ≤ form_of (slice t a b) → every (word_at (slice t a b)) (length (slice t a b)) ≡ true
  form-words f = go (every (word_at (slice t a b)) (length (slice t a b))) f
    where
      go : (x : Bool) → 1 ≤ pick x (class_of (get_or (slice t a b) 0 0)) 0 → x ≡ true
      go true g = refl
      go false g = absurd (omega arith)

  part-words : 1 ≤ form_of (slice t a b) → (j : ℕ) → a ≤ j → j < b → word_at t j ≡ true
  part-words f j g k =
      let n = part-long in
      let e : a + (j - a) ≡ j = omega arith in
      ap (word_at t) (sym e) ∙ sym (part-word (j - a) (omega arith)) ∙ every-at (word_at (slice t a b)) (length (slice t a b)) (j - a) (form-words f) (omega arith)

-- what holds between any two offsets that follow one another holds up to the last one
tiled : (off : ℕ → ℕ) (P : ℕ → Type 0) (m : ℕ) → off 0 ≡ 0 → ((n : ℕ) → n < m → (j : ℕ) → off n ≤ j → j < off (n + 1) → P j) → (j : ℕ) → j < off m → P j
tiled off P zero z f j l = absurd (omega arith)
tiled off P (suc m) z f j l =
    ⊎_elim (λ (h : j < off m). tiled off P m z (λ n g. f n (omega arith)) j h)
    (λ (h : off m ≤ j). f m (omega arith) j h (rw add-one l))
    (lt-or-ge j (off m))

module _ (names text : List ℕ) (m : ℕ) where
  named-words : names_ok names text m ≡ true → all_words text ≡ true
  unfolding all_words
  named-words t =
      let z = eqb-true (off_of names 0) 0 (both_left _ _ t) in
      let e = eqb-true (off_of names m) (length text) (both_left _ _ (both_right (eqb (off_of names 0) 0) _ t)) in
      every-so (word_at text) (length text) (λ j l. tiled (off_of names) (λ i. word_at text i ≡ true) m z here j (omega arith))
    where
      here : (n : ℕ) → n < m → (j : ℕ) → off_of names n ≤ j → j < off_of names (n + 1) → word_at text j ≡ true
      here n l j g k =
          let e : n + 1 - 1 ≡ n = omega arith in
          let a = rw e at (named names text m (n + 1) t (omega arith) (omega arith)) in
          part-words text (off_of names n) (off_of names (n + 1)) a.0 a.1 a.2 j g k

  -- so where some byte is of no class, the names are not in order
  pub names-other : all_words text ≡ false → names_ok names text m ≡ false
  names-other w = go (names_ok names text m) refl
    where
      go : (b : Bool) → names_ok names text m ≡ b → b ≡ false
      go true e = absurd (true≢false (sym (named-words e) ∙ w))
      go false e = refl
