-- Numbers of names: in range where a node carries one; and a table, name by name.
use Prim.Native.Nat.{ℕ, zero, suc, ◌+◌, ◌*◌, ◌-◌, ◌<◌, ◌≤◌}
use mathlib.Core.Path.{◌≡◌, refl, ap, ◌∙◌, sym}
use mathlib.Core.Bool.{Bool, true, false}
use mathlib.Core.List.{List}
use mathlib.Core.Logic.{◌⊎◌, ⊎_elim}
use native.Mathlib.Omega.{arith}
use borrow.Author.Tests.{leb-true, ne_eqb}
use lib.Dec.{eqb, leb, eqb-suc-zero}
use lib.ListN.{get_or, set, replicate, length-set, length-replicate, get_or-replicate}
use lib.Seq.{get_or-set_same, get_or-set_other}
use Rattle.image.specs.Pick.{pick, both}
use Rattle.image.specs.Node.{half, kind_of, name_of, end_of}
use Rattle.image.specs.Text.{names_ok, form_of, text_of}
use Rattle.image.specs.Tree.{tree_ok, node_ok, name_fits, carries}
use Rattle.image.specs.Admit.{refusal, header_refusal, body_refusal, node_count, name_count, nodes_of, names_of, text_part}
use Rattle.image.proofs.Every.{both_left, both_right, every-at}
pub use Rattle.image.proofs.Every.{both_false}
use Rattle.image.proofs.Verdict.{pick-zero}
use Rattle.image.proofs.Decide.{eq-or-ne}
use Rattle.image.proofs.Given.{given}
use Rattle.rules.specs.Sweep.{either, same}
use Rattle.rules.proofs.Reflect.{tells-same}
use Rattle.rules.proofs.Numbers.{same_numbers}
use Rattle.nodes.specs.Shown.{name_text, number}
use Rattle.nodes.specs.Table.{Table}
use Rattle.nodes.specs.Marks.{Marks, marking}

body-zero : (s : List ℕ) → refusal s ≡ 0 → body_refusal (nodes_of s) (names_of s) (text_part s) (node_count s) (name_count s) ≡ 0
unfolding refusal
body-zero s e = go (header_refusal s) (body_refusal (nodes_of s) (names_of s) (text_part s) (node_count s) (name_count s)) e
  where
    go : (h b : ℕ) → pick (eqb h 0) b h ≡ 0 → b ≡ 0
    go zero b q = q
    go (suc h) b q = let z : suc h ≡ 0 = simp (eqb-suc-zero) at q in absurd (omega arith)

tree-ok : (s : List ℕ) → refusal s ≡ 0 → tree_ok (nodes_of s) (names_of s) (text_part s) (node_count s) (name_count s) ≡ true
unfolding body_refusal
tree-ok s e =
    let a = pick-zero (names_ok (names_of s) (text_part s) (name_count s)) _ 5 (omega arith) (body-zero s e) in
    (pick-zero (tree_ok (nodes_of s) (names_of s) (text_part s) (node_count s) (name_count s)) _ 6 (omega arith) a.1).0

fits : (s : List ℕ) → refusal s ≡ 0 → (i : ℕ) → i < node_count s → name_fits (names_of s) (text_part s) (name_count s) (kind_of (nodes_of s) i) (name_of (nodes_of s) i) ≡ true
unfolding node_ok
fits s e i l =
    let n = nodes_of s in
    let a = both_right (eqb (kind_of n 0) 1) _ (tree-ok s e) in
    let b = both_right (eqb (end_of n 0) (node_count s)) _ a in
    let c = every-at (node_ok n (names_of s) (text_part s) (node_count s) (name_count s)) (node_count s) i b l in
    let d = both_right (eqb (get_or n (16 * i + 1) 0) 0) _ c in
    let f = both_right (eqb (half n (16 * i + 6)) 0) _ d in
    both_left (name_fits (names_of s) (text_part s) (name_count s) (kind_of n i) (name_of n i)) _ f

-- a Name and an Ident carry a number from 1 to M
ranged : (names text : List ℕ) (m k n : ℕ) → name_fits names text m k n ≡ true → carries k ≡ 1 → (1 ≤ n) × (n ≤ m)
unfolding name_fits
ranged names text m k n e f =
    let z : eqb (carries k) 0 ≡ false = ne_eqb (carries k) 0 (omega arith) in
    let g : both (leb 1 n) (both (leb n m) (eqb (form_of (text_of names text n)) (carries k))) ≡ true = rw z at e in
    (leb-true 1 n (both_left (leb 1 n) _ g), leb-true n m (both_left (leb n m) _ (both_right (leb 1 n) _ g)))

pub in-range : (s : List ℕ) → refusal s ≡ 0 → (i : ℕ) → i < node_count s → (kind_of (nodes_of s) i ≡ 23) ⊎ (kind_of (nodes_of s) i ≡ 35) → (1 ≤ number s i) × (number s i ≤ name_count s) × (name_count s ≤ 1024)
unfolding carries
in-range s e i l h =
    let c : carries (kind_of (nodes_of s) i) ≡ 1 = ⊎_elim (λ (q : kind_of (nodes_of s) i ≡ 23). rw q) (λ (q : kind_of (nodes_of s) i ≡ 35). rw q) h in
    let r = ranged _ _ _ _ _ (fits s e i l) c in
    (r.0, r.1, (given s e).header.names)

pub same-is : (v : List ℕ) → same v v ≡ true
same-is v = (tells-same v v).back refl

pub same_not : (v w : List ℕ) → (v ≡ w → ⊥) → same v w ≡ false
same_not v w n = go (same v w) refl
  where
    go : (b : Bool) → same v w ≡ b → same v w ≡ false
    go true e = absurd (n ((tells-same v w).so e))
    go false e = e

pub either-false : (a : Bool) → either a false ≡ a
either-false true = refl
either-false false = refl

pub both_true : (a : Bool) → both a true ≡ a
both_true true = refl
both_true false = refl

-- a test that holds turns the mark, one that fails leaves it
marking-all : (on a : Bool) → marking on a true ≡ on
unfolding marking
marking-all true true = refl
marking-all true false = refl
marking-all false a = both_false a

pub marking-none : (on a : Bool) → marking on a false ≡ a
unfolding marking
marking-none true a = either-false a
marking-none false a = both_true a

-- Tables of any marks

pub marks-none : {A : Type 0} {d : A} (s : List ℕ) → refusal s ≡ 0 → Table d s (λ w. d) (replicate 1024 d)
marks-none {d = d} s e = record { size = length-replicate 1024 d; mark = λ x l h. get_or-replicate 1024 (x - 1) d d (let m = (given s e).header.names in omega arith) }

pub marks-as : {A : Type 0} {d : A} {s : List ℕ} {F G : List ℕ → A} {r : List A} → ((w : List ℕ) → F w ≡ G w) → Table d s F r → Table d s G r
marks-as {s = s} f T = record { size = T.size; mark = λ x l h. T.mark x l h ∙ f (name_text s x) }

-- the mark of name y is set to u, which is what G makes of it: so it is for the bytes that it has
pub marks-put : {A : Type 0} {d : A} (G : A → Bool → A) (s : List ℕ) (F : List ℕ → A) (r : List A) (y : ℕ) (u : A) → u ≡ G (F (name_text s y)) true → ((v : A) → G v false ≡ v)
    → refusal s ≡ 0 → 1 ≤ y → y ≤ name_count s → Table d s F r → Table d s (λ w. G (F w) (same (name_text s y) w)) (set r (y - 1) u)
marks-put {A} {d} G s F r y u hit miss e l h T = record { size = length-set r (y - 1) u ∙ T.size; mark = at_name }
  where
    at_name : (x : ℕ) → 1 ≤ x → x ≤ name_count s → get_or (set r (y - 1) u) (x - 1) d ≡ G (F (name_text s x)) (same (name_text s y) (name_text s x))
    at_name x a c =
        let m = (given s e).header.names in
        let z = T.size in
        ⊎_elim
        (λ (q : y ≡ x). rw (← q) (get_or-set_same r (y - 1) u d (omega arith) ∙ hit ∙ sym (ap (G (F (name_text s y))) (same-is (name_text s y)))))
        (λ (n : y ≡ x → ⊥).
        get_or-set_other r (y - 1) (x - 1) u d (omega (arith, n)) ∙ T.mark x a c ∙ sym (miss (F (name_text s x)))
        ∙ sym (ap (G (F (name_text s x))) (same_not (name_text s y) (name_text s x) (λ q. n (same_numbers s e y x h c q)))))
        (eq-or-ne y x)

-- of Bools: the mark of name y is set or taken off
pub marks-set : (on : Bool) (s : List ℕ) (P : List ℕ → Bool) (r : List Bool) (y : ℕ) → refusal s ≡ 0 → 1 ≤ y → y ≤ name_count s → Marks s P r → Marks s (λ w. marking on (P w) (same (name_text s y) w)) (set r (y - 1) on)
marks-set on s P r y = marks-put (marking on) s P r y on (sym (marking-all on (P (name_text s y)))) (marking-none on)
