-- Bytes written one run after another; the digits of a number; the rest of a line.
use Prim.Native.Nat.{ℕ, zero, suc, ◌+◌, ◌*◌, ◌-◌, ◌/◌, ◌%◌, ◌<◌, ◌≤◌}
use mathlib.Core.Path.{◌≡◌, refl, ap, ◌∙◌, sym}
use mathlib.Core.Bool.{Bool, true, false}
use mathlib.Core.List.{List, [], ◌∷◌, ◌++◌}
use native.Mathlib.Omega.{arith}
use native.Mathlib.Numerals.{add-one}
use borrow.Author.Tests.{lt-ltb, le-ltb}
use lib.Dec.{ltb}
use lib.ListN.{length, length-append, get_or, set, take}
use lib.Seq.{take-suc, length-sets}
use Rattle.image.specs.Pick.{pick}
use Rattle.records.proofs.Laws.{sets-append}
use Rattle.lines.specs.Line.{digits, rest, Printed}

pub wrote_none : (o : List ℕ) (k : ℕ) → Printed o k [] o k
wrote_none o k = record { count = omega arith; bytes = refl }

pub wrote-byte : {o o' : List ℕ} (k b : ℕ) → o' ≡ set o k b → Printed o k (b ∷ []) o' (k + 1)
wrote-byte k b e = record { count = refl; bytes = e }

pub wrote-join : {o₀ o₁ o₂ : List ℕ} {k₀ k₁ k₂ : ℕ} {a b : List ℕ} → Printed o₀ k₀ a o₁ k₁ → Printed o₁ k₁ b o₂ k₂ → Printed o₀ k₀ (a ++ b) o₂ k₂
wrote-join {o₀} {o₁} {o₂} {k₀} {k₁} {k₂} {a} {b} p q = record {
  count = q.count ∙ omega (arith, p.count, length-append a b);
  bytes = q.bytes ∙ rw p.bytes (rw p.count (sym (sets-append o₀ k₀ a b)));
}

pub wrote_as : {o o' : List ℕ} {k k' : ℕ} {a b : List ℕ} → a ≡ b → Printed o k a o' k' → Printed o k b o' k'
wrote_as e p = rw e at p

pub wrote-long : {o o' : List ℕ} {k k' : ℕ} {t : List ℕ} → Printed o k t o' k' → length o' ≡ length o
wrote-long {o} {o'} {k} {k'} {t} p = ap length p.bytes ∙ length-sets o k t

pub take_next : (t : List ℕ) (i : ℕ) → i < length t → take i t ++ (get_or t i 0 ∷ []) ≡ take (i + 1) t
take_next t i h = sym (ap (λ (j : ℕ). take j t) (add-one i) ∙ take-suc t i 0 h)

-- the digits of a number: none, one, or those of n / 10 and then the last
pub digits-none : (most n : ℕ) → most ≡ 0 → [] ≡ digits most n
unfolding digits
digits-none most n e = rw e

digits-some : (most m n : ℕ) → most ≡ suc m → digits most n ≡ pick (ltb n 10) ((48 + n) ∷ []) (digits m (n / 10) ++ ((48 + n % 10) ∷ []))
unfolding digits
digits-some most m n e = rw e

pub digits-one : (most n d : ℕ) → (most ≡ 0 → ⊥) → n < 10 → d ≡ 48 + n → d ∷ [] ≡ digits most n
digits-one most n d z h e =
    let f : most ≡ suc (most - 1) = omega arith in
    ap (λ (x : ℕ). x ∷ []) e ∙ sym (digits-some most (most - 1) n f ∙ ap (λ (b : Bool). pick b ((48 + n) ∷ []) (digits (most - 1) (n / 10) ++ ((48 + n % 10) ∷ []))) (lt-ltb n 10 h))

pub digits_more : (most n d : ℕ) → (most ≡ 0 → ⊥) → 10 ≤ n → d ≡ 48 + n % 10 → digits (most - 1) (n / 10) ++ (d ∷ []) ≡ digits most n
digits_more most n d z h e =
    let f : most ≡ suc (most - 1) = omega arith in
    ap (λ (x : ℕ). digits (most - 1) (n / 10) ++ (x ∷ [])) e
    ∙ sym (digits-some most (most - 1) n f ∙ ap (λ (b : Bool). pick b ((48 + n) ∷ []) (digits (most - 1) (n / 10) ++ ((48 + n % 10) ∷ []))) (le-ltb n 10 h))

-- how many digits: one more for each 10
abbrev pub Few : ℕ → ℕ → Type 0
Few bound k = (most n : ℕ) → n < bound → length (digits most n) ≤ k

few-one : Few 10 1
unfolding digits
few-one zero n h = omega arith
few-one (suc most) n h = rw (lt-ltb n 10 h) (omega arith)

few-more : {b k : ℕ} → 1 ≤ k → Few b k → Few (10 * b) (k + 1)
unfolding digits
few-more l f zero n h = omega arith
few-more {b} {k} l f (suc most) n h = go (ltb n 10)
  where
    go : (t : Bool) → length (pick t ((48 + n) ∷ []) (digits most (n / 10) ++ ((48 + n % 10) ∷ []))) ≤ k + 1
    go true = omega arith
    go false = let a = length-append (digits most (n / 10)) ((48 + n % 10) ∷ []) in let g = f most (n / 10) (omega arith) in omega arith

pub few-five : Few 100000 5
few-five = few-more (omega arith) (few-more (omega arith) (few-more (omega arith) (few-more (omega arith) few-one)))

pub few-ten : Few 10000000000 10
few-ten = few-more (omega arith) (few-more (omega arith) (few-more (omega arith) (few-more (omega arith) (few-more (omega arith) few-five))))

-- the rest of a line
pub rest_end : (n : ℕ) → (32 ∷ digits 20 n) ++ (10 ∷ []) ≡ rest (n ∷ [])
unfolding rest
rest_end n = refl

pub rest-four : (a b c d : ℕ) → (32 ∷ digits 20 a) ++ ((32 ∷ digits 20 b) ++ ((32 ∷ digits 20 c) ++ rest (d ∷ []))) ≡ rest (a ∷ b ∷ c ∷ d ∷ [])
unfolding rest
rest-four a b c d = refl

pub rest-length : (a b c d : ℕ) → length (rest (a ∷ b ∷ c ∷ d ∷ [])) ≡ 5 + length (digits 20 a) + length (digits 20 b) + length (digits 20 c) + length (digits 20 d)
unfolding rest
rest-length a b c d =
    let w = length-append (digits 20 a) (rest (b ∷ c ∷ d ∷ [])) in
    let x = length-append (digits 20 b) (rest (c ∷ d ∷ [])) in
    let y = length-append (digits 20 c) (rest (d ∷ [])) in
    let z = length-append (digits 20 d) (rest []) in
    omega arith
