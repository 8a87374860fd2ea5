-- The laws of counting: one record more is compared, one code more is met.
use Prim.Native.Nat.{ℕ, zero, suc, ◌+◌, ◌*◌, ◌-◌, ◌<◌, ◌≤◌}
use mathlib.Core.Path.{◌≡◌, refl, ap, ◌∙◌}
use mathlib.Core.Bool.{Bool, true, false, not}
use mathlib.Core.List.{List}
use mathlib.Core.Logic.{⊎_elim}
use native.Mathlib.Nat.{eq-or-lt_of_le, le_of_suc-le-suc}
use native.Mathlib.Numerals.{add-one}
use native.Mathlib.Omega.{arith}
use borrow.Author.Tests.{le-leb, lt-leb}
use Rattle.image.specs.Pick.{pick, count}
use Rattle.image.specs.Node.{half}
use Rattle.recording.specs.declared.tell.Numbers.{Numbers}
use Rattle.recording.specs.declared.list.Part.{Part}
use Rattle.recording.specs.declared.list.Parts.{Parts}
use Rattle.recording.specs.Told.{numbers, alike, difference, record_words, record_bytes, record_at, record_in, other_record, other_records}
use Rattle.recording.specs.Told.{run_below, part_of, parts_of}

pub added : {a a' b b' : ℕ} → a ≡ a' → b ≡ b' → a + b ≡ a' + b'
added e f = cc

pub differences : {a a' b b' : Numbers} → a ≡ a' → b ≡ b' → difference a b ≡ difference a' b'
differences e f = cc

-- six numbers, those after the first one by one
pub numbers-are : (a : ℕ) {b b' c c' d d' e e' f f' : ℕ} → b ≡ b' → c ≡ c' → d ≡ d' → e ≡ e' → f ≡ f'
    → numbers a b c d e f ≡ numbers a b' c' d' e' f'
numbers-are a p q r t u = cc

-- a part by its numbers
abbrev pub Lies : Part → ℕ → ℕ → Type 0
Lies x at n = (x.at ≡ at) × (x.count ≡ n)

pub part-is : {x : Part} {at n : ℕ} → Lies x at n → x ≡ part_of at n
part-is {x} {at} {n} (p, q) = ap (λ (k : ℕ). part_of k x.count) p ∙ ap (part_of at) q

-- the parts that the two runs make
pub parts_are : (s : List ℕ) (at n a b : ℕ) {x y z : Part} → a ≡ run_below s at 50 n
    → b ≡ run_below s (at + record_bytes * a) 60 (n - a) → Lies x at a → Lies y (at + record_bytes * a) b
    → Lies z (at + record_bytes * a + record_bytes * b) (n - a - b)
    → ◌≡◌ {A = Parts} (record { resolve = x; access = y; linear = z }) (parts_of s at n)
parts_are s at n a b {x} {y} {z} e f p q r =
    let p' : x ≡ part_of at a = part-is p in
    let q' : y ≡ part_of (at + record_bytes * a) b = part-is q in
    let r' : z ≡ part_of (at + record_bytes * a + record_bytes * b) (n - a - b) = part-is r in
    cc

-- what is counted grows by 1 where the two are not alike
counted : (b : Bool) (d c x : ℕ) → d ≡ c → x ≡ pick b 0 1 → d + x ≡ pick (not b) (c + 1) c
counted true d c x e h = omega arith
counted false d c x e h = omega arith

-- .. and what is counted stays so
is-counted : (b : Bool) (c : ℕ) → 0 < pick b 0 1 → 0 < pick (not b) (c + 1) c
is-counted true c h = absurd (omega arith)
is-counted false c h = omega arith

stays-counted : (b : Bool) (c : ℕ) → 0 < c → 0 < pick (not b) (c + 1) c
stays-counted true c h = h
stays-counted false c h = omega arith

module _ (s : List ℕ) (at : ℕ) (head : Numbers) (w : List ℕ) where
  pub others-none : 0 ≡ other_records s at head w 0
  unfolding count
  others-none = refl

  pub others-more : (i d x : ℕ) → d ≡ other_records s at head w i
      → x ≡ difference (record_at s (at + record_bytes * i) head) (record_in w (record_words * i) head)
      → d + x ≡ other_records s at head w (i + 1)
  unfolding count
  others-more i d x e h =
      rw add-one (counted (alike (record_at s (at + record_bytes * i) head) (record_in w (record_words * i) head)) d _ x e h)

  -- a record that differs is counted
  pub others-one : (i n : ℕ) → i < n → 0 < difference (record_at s (at + record_bytes * i) head) (record_in w (record_words * i) head)
      → 0 < other_records s at head w n
  unfolding count
  others-one i zero l h = absurd (omega arith)
  others-one i (suc n) l h =
      ⊎_elim
      (λ q. let e = ap (λ (k : ℕ). difference (record_at s (at + record_bytes * k) head) (record_in w (record_words * k) head)) q in
      is-counted (alike (record_at s (at + record_bytes * n) head) (record_in w (record_words * n) head)) (count (other_record s at head w) n) (omega arith))
      (λ l. stays-counted (alike (record_at s (at + record_bytes * n) head) (record_in w (record_words * n) head)) (count (other_record s at head w) n) (others-one i n l h))
      (eq-or-lt_of_le (le_of_suc-le-suc l))

  pub others-all : (i n d : ℕ) → d ≡ other_records s at head w i → i ≡ n → d ≡ other_records s at head w n
  others-all i n d e h = e ∙ ap (other_records s at head w) h

module _ (s : List ℕ) (code : ℕ) where
  -- a run ends at once, or goes on
  run_none : (at n : ℕ) → n ≡ 0 → run_below s at code n ≡ 0
  unfolding run_below
  run_none at zero e = refl
  run_none at (suc n) e = absurd (omega arith)

  run-stops : (at n : ℕ) → code ≤ half s at → run_below s at code n ≡ 0
  unfolding run_below
  run-stops at zero l = refl
  run-stops at (suc n) l = simp (le-leb code (half s at) l)

  run_on : (at n : ℕ) → half s at < code → 0 < n → run_below s at code n ≡ run_below s (at + record_bytes) code (n - 1) + 1
  unfolding run_below
  run_on at zero l h = absurd (omega arith)
  run_on at (suc n) l h =
      let e : suc n - 1 ≡ n = omega arith in
      let f : run_below s (at + record_bytes) code (suc n - 1) ≡ run_below s (at + record_bytes) code n = cc in
      simp (lt-leb code (half s at) l) (let g = add-one (run_below s (at + record_bytes) code n) in omega arith)

  -- i records of a run are behind, and the rest of it is ahead
  abbrev pub Ran : ℕ → ℕ → ℕ → Type 0
  Ran at n i = run_below s at code n ≡ i + run_below s (at + record_bytes * i) code (n - i)

  pub ran-none : (at n : ℕ) → Ran at n 0
  ran-none at n =
      let p : at + record_bytes * 0 ≡ at = omega arith in
      let q : n - 0 ≡ n = omega arith in
      let e : run_below s (at + record_bytes * 0) code (n - 0) ≡ run_below s at code n = cc in
      omega arith

  pub ran-more : (at n i : ℕ) → Ran at n i → i < n → half s (at + record_bytes * i) < code → Ran at n (i + 1)
  ran-more at n i r l h =
      let p : at + record_bytes * (i + 1) ≡ at + record_bytes * i + record_bytes = omega arith in
      let q : n - (i + 1) ≡ n - i - 1 = omega arith in
      let e : run_below s (at + record_bytes * (i + 1)) code (n - (i + 1))
      ≡ run_below s (at + record_bytes * i + record_bytes) code (n - i - 1) = cc in
      let f : run_below s (at + record_bytes * i) code (n - i)
      ≡ run_below s (at + record_bytes * i + record_bytes) code (n - i - 1) + 1
      = run_on (at + record_bytes * i) (n - i) h (omega arith) in
      omega arith

  pub ran-stops : (at n i : ℕ) → Ran at n i → code ≤ half s (at + record_bytes * i) → i ≡ run_below s at code n
  ran-stops at n i r l =
      let e : run_below s (at + record_bytes * i) code (n - i) ≡ 0 = run-stops (at + record_bytes * i) (n - i) l in
      omega arith

  pub ran-all : (at n i : ℕ) → Ran at n i → n ≤ i → i ≡ run_below s at code n
  ran-all at n i r l =
      let e : run_below s (at + record_bytes * i) code (n - i) ≡ 0 = run_none (at + record_bytes * i) (n - i) (omega arith) in
      omega arith
