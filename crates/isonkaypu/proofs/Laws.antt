-- Plain numbers of an answer, from those of another that equals it; four numbers stored one by one; three rows of four.
use Prim.Native.Nat.{ℕ, suc, ◌+◌}
use mathlib.Core.Path.{◌≡◌, ap, ◌∙◌}
use mathlib.Core.List.{List, [], ◌∷◌, ◌++◌}
use native.Mathlib.Omega.{arith}
use lib.ListN.{set}
use lib.Seq.{sets}
use Rattle.rules.specs.Answers.{Answer, NameReply, ListReply}
use Rattle.isonkaypu.specs.Plain.{Gives, row, Says, Tells}

pub gives_as : {a b : Answer} {n p f t : ℕ} → a ≡ b → Gives a n p f t → Gives b n p f t
gives_as e g = rw e at g

pub says-as : {a b : NameReply} {n p : ℕ} → a ≡ b → Says a n p → Says b n p
says-as e g = rw e at g

pub tells_as : {a b : ListReply} {n p : ℕ} → a ≡ b → Tells a n p → Tells b n p
tells_as e g = rw e at g

pub stored : (o : List ℕ) (at a b c d : ℕ) → set (set (set (set o at a) (at + 1) b) (at + 2) c) (at + 3) d ≡ sets o at (a ∷ b ∷ c ∷ d ∷ [])
stored o at a b c d =
    let e : at + 1 ≡ suc at = omega arith in
    let f : at + 2 ≡ suc (suc at) = omega arith in
    let g : at + 3 ≡ suc (suc (suc at)) = omega arith in
    rw (e, f, g)

-- three verdicts, each stored in its row
pub rows_as : (o o₃ : List ℕ) {o₁ o₂ : List ℕ} {a b c a' b' c' : Answer} → a ≡ a' → b ≡ b' → c ≡ c'
    → o₁ ≡ sets o 0 (row a) → o₂ ≡ sets o₁ 4 (row b) → o₃ ≡ sets o₂ 8 (row c) → o₃ ≡ sets o 0 (row a' ++ row b' ++ row c')
rows_as o o₃ {o₁} {o₂} {a} {b} {c} {a'} {b'} {c'} d e f x y z =
    z ∙ ap (λ (v : List ℕ). sets v 8 (row c)) (y ∙ ap (λ (v : List ℕ). sets v 4 (row b)) x)
    ∙ ap (λ (v : Answer). sets o 0 (row v ++ row b ++ row c)) d ∙ ap (λ (v : Answer). sets o 0 (row a' ++ row v ++ row c)) e
    ∙ ap (λ (v : Answer). sets o 0 (row a' ++ row b' ++ row v)) f
