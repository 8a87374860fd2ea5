-- Two texts compared four bytes at a time: four bytes alike are passed, and the first four that are not decide, as numbers whose first byte is highest.
use Prim.Native.Nat.{ℕ, ◌+◌, ◌-◌, ◌<◌, ◌≤◌}
use mathlib.Core.Path.{◌≡◌, ap, ◌∙◌, sym}
use mathlib.Core.List.{List}
use mathlib.Core.Logic.{⊎_elim}
use native.Mathlib.Omega.{arith}
use borrow.Author.Tests.{lt-ltb, le-ltb}
use lib.Dec.{ltb}
use lib.ListN.{length, get_or, take, drop, length-drop}
use lib.Seq.{take_all}
use Rattle.image.specs.Node.{full_word}
use Rattle.name_table.specs.Bytes.{Alike, four_of}
use Rattle.image.specs.Text.{less}
use Rattle.image.proofs.Decide.{eq-or-ne, lt-or-ge}
use Rattle.image.proofs.Text.{less-same, less-differs}

-- two numbers that differ, and two others that lie the same way
same-order : (x y a b : ℕ) → (x ≡ y → ⊥) → (x < y → a < b) → (y < x → b < a) → ltb x y ≡ ltb a b
same-order x y a b n f g =
    ⊎_elim (λ (h : x < y). lt-ltb x y h ∙ sym (lt-ltb a b (f h)))
    (λ (h : y ≤ x). le-ltb x y h ∙ sym (let l = g (omega arith) in le-ltb a b (omega arith)))
    (lt-or-ge x y)

module _ (t u : List ℕ) (bt : (i : ℕ) → get_or t i 0 < 256) (bu : (i : ℕ) → get_or u i 0 < 256) (k : ℕ) (lt : k + 4 ≤ length t) (lu : k + 4 ≤ length u) where
  -- byte j of the four, at place i: where it is the same, the next place; where it is not, it decides
  passed : (j i : ℕ) → i ≡ k + j → j < 4 → get_or t i 0 ≡ get_or u i 0 → less (drop i t) (drop i u) ≡ less (drop (k + (j + 1)) t) (drop (k + (j + 1)) u)
  passed j i is l e = let z : i + 1 ≡ k + (j + 1) = omega arith in less-same t u i (omega arith) (omega arith) e ∙ ap (λ (n : ℕ). less (drop n t) (drop n u)) z

  decides : (j i : ℕ) → i ≡ k + j → j < 4 → (get_or t i 0 ≡ get_or u i 0 → ⊥) → (get_or t i 0 < get_or u i 0 → four_of t k < four_of u k) → (get_or u i 0 < get_or t i 0 → four_of u k < four_of t k) → less (drop i t) (drop i u) ≡ ltb (four_of t k) (four_of u k)
  decides j i is l d f g = less-differs t u i (omega arith) (omega arith) d ∙ same-order (get_or t i 0) (get_or u i 0) (four_of t k) (four_of u k) d f g

  last_byte : (s : List ℕ) → get_or s (k + 2 + 1) 0 ≡ get_or s (k + 3) 0
  last_byte s = let z : k + 2 + 1 ≡ k + 3 = omega arith in ap (λ (n : ℕ). get_or s n 0) z

  -- the words are the same exactly when the bytes are
  bytes_same : full_word t k ≡ full_word u k → (get_or t k 0 ≡ get_or u k 0) × (get_or t (k + 1) 0 ≡ get_or u (k + 1) 0) × (get_or t (k + 2) 0 ≡ get_or u (k + 2) 0) × (get_or t (k + 3) 0 ≡ get_or u (k + 3) 0)
  bytes_same e =
      let t0 = bt k in
      let t1 = bt (k + 1) in
      let t2 = bt (k + 2) in
      let t3 = bt (k + 2 + 1) in
      let u0 = bu k in
      let u1 = bu (k + 1) in
      let u2 = bu (k + 2) in
      let u3 = bu (k + 2 + 1) in
      let z = last_byte t in
      let y = last_byte u in
      (omega arith, omega arith, omega arith, omega arith)

  pub four_same : full_word t k ≡ full_word u k → less (drop k t) (drop k u) ≡ less (drop (k + 4) t) (drop (k + 4) u)
  four_same e =
      let b = bytes_same e in
      passed 0 k (omega arith) (omega arith) b.0 ∙ passed 1 (k + 1) (omega arith) (omega arith) b.1 ∙ passed 2 (k + 2) (omega arith) (omega arith) b.2 ∙ passed 3 (k + 3) (omega arith) (omega arith) b.3

  -- the first byte that differs decides, whichever it is
  module _ (differ : full_word t k ≡ full_word u k → ⊥) where
    from-3 : get_or t k 0 ≡ get_or u k 0 → get_or t (k + 1) 0 ≡ get_or u (k + 1) 0 → get_or t (k + 2) 0 ≡ get_or u (k + 2) 0 → less (drop (k + 3) t) (drop (k + 3) u) ≡ ltb (four_of t k) (four_of u k)
    from-3 e0 e1 e2 =
        let z = last_byte t in
        let y = last_byte u in
        ⊎_elim (λ (e : get_or t (k + 3) 0 ≡ get_or u (k + 3) 0). absurd (differ (omega arith)))
        (λ (n : get_or t (k + 3) 0 ≡ get_or u (k + 3) 0 → ⊥). decides 3 (k + 3) (omega arith) (omega arith) n (λ l. omega arith) (λ l. omega arith))
        (eq-or-ne (get_or t (k + 3) 0) (get_or u (k + 3) 0))

    from-2 : get_or t k 0 ≡ get_or u k 0 → get_or t (k + 1) 0 ≡ get_or u (k + 1) 0 → less (drop (k + 2) t) (drop (k + 2) u) ≡ ltb (four_of t k) (four_of u k)
    from-2 e0 e1 =
        let t3 = bt (k + 3) in
        let u3 = bu (k + 3) in
        ⊎_elim (λ (e : get_or t (k + 2) 0 ≡ get_or u (k + 2) 0). passed 2 (k + 2) (omega arith) (omega arith) e ∙ from-3 e0 e1 e)
        (λ (n : get_or t (k + 2) 0 ≡ get_or u (k + 2) 0 → ⊥). decides 2 (k + 2) (omega arith) (omega arith) n (λ l. omega arith) (λ l. omega arith))
        (eq-or-ne (get_or t (k + 2) 0) (get_or u (k + 2) 0))

    from-1 : get_or t k 0 ≡ get_or u k 0 → less (drop (k + 1) t) (drop (k + 1) u) ≡ ltb (four_of t k) (four_of u k)
    from-1 e0 =
        let t2 = bt (k + 2) in
        let u2 = bu (k + 2) in
        let t3 = bt (k + 3) in
        let u3 = bu (k + 3) in
        ⊎_elim (λ (e : get_or t (k + 1) 0 ≡ get_or u (k + 1) 0). passed 1 (k + 1) (omega arith) (omega arith) e ∙ from-2 e0 e)
        (λ (n : get_or t (k + 1) 0 ≡ get_or u (k + 1) 0 → ⊥). decides 1 (k + 1) (omega arith) (omega arith) n (λ l. omega arith) (λ l. omega arith))
        (eq-or-ne (get_or t (k + 1) 0) (get_or u (k + 1) 0))

    pub four-less : less (drop k t) (drop k u) ≡ ltb (four_of t k) (four_of u k)
    four-less =
        let t1 = bt (k + 1) in
        let u1 = bu (k + 1) in
        let t2 = bt (k + 2) in
        let u2 = bu (k + 2) in
        let t3 = bt (k + 3) in
        let u3 = bu (k + 3) in
        ⊎_elim (λ (e : get_or t k 0 ≡ get_or u k 0). passed 0 k (omega arith) (omega arith) e ∙ from-1 e)
        (λ (n : get_or t k 0 ≡ get_or u k 0 → ⊥). decides 0 k (omega arith) (omega arith) n (λ l. omega arith) (λ l. omega arith))
        (eq-or-ne (get_or t k 0) (get_or u k 0))

-- what `alike` says of two texts, put to use: the next four bytes of both decide, or what is left of them
module _ (t u : List ℕ) (k : ℕ) (A : Alike t u k) where
  pub by-fours : ((i : ℕ) → get_or t i 0 < 256) → ((i : ℕ) → get_or u i 0 < 256) → k + 4 ≤ length t → k + 4 ≤ length u → (x y : ℕ) → x ≡ four_of t k → y ≡ four_of u k → ltb x y ≡ less t u
  by-fours bt bu lt lu x y f g = rw (f, g) (sym (A.rests ∙ four-less t u bt bu k lt lu (A.differ lt lu)))

  left : (s : List ℕ) → take (length s - k) (drop k s) ≡ drop k s
  left s = take_all (length s - k) (drop k s) (simp length-drop (omega arith))

  pub by-rests : less (take (length t - k) (drop k t)) (take (length u - k) (drop k u)) ≡ less t u
  by-rests = rw (left t, left u) (sym A.rests)
