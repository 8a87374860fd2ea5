-- From the answer of admission to what is promised of a pass; the first record, from a buffer of four words; the parts of the list,
-- one after the other.
use Prim.Native.Nat.{ℕ, suc, ◌+◌, ◌*◌, ◌-◌, ◌^◌, ◌≤◌}
use mathlib.Core.Path.{◌≡◌, refl, ap, ◌∙◌, sym}
use mathlib.Core.Bool.{Bool, true, false}
use mathlib.Core.List.{List, [], ◌∷◌, ◌++◌, append-nil, append_assoc}
use native.Mathlib.Omega.{arith}
use borrow.Author.Tests.{ne_eqb, lt-ltb, le-ltb, leb-true}
use lib.Dec.{leb}
use lib.ListN.{length, length-append, get_or, take, drop, length-drop, drop_of_length-le, replicate}
use lib.Seq.{sets, sets-eq, set_out, take_all, drop-drop}
use Rattle.image.specs.Pick.{pick, both}
use Rattle.image.specs.Admit.{refusal, admission_of}
use Rattle.image.specs.declared.Image.{Image}
use Rattle.image.specs.declared.Refusal.{Refusal}
use Rattle.image.specs.Refusals.{refusal_of}
use Rattle.image.proofs.Refusals.{known}
use Rattle.std.specs.Prelude.{Option, None, Some, Ok, Err}
use Rattle.image.proofs.Every.{both_left}
use Rattle.image.proofs.Verdict.{refused-is}
use Rattle.rules.specs.Tree.{Tree, tree}
use Rattle.rules.specs.Vocabulary.{Rec}
use Rattle.rules.specs.Resolve.{resolve}
use Rattle.rules.specs.Access.{access}
use Rattle.rules.specs.Linear.{linear}
use Rattle.rules.specs.All.{offences, entry_of}
use Rattle.rules.specs.Passes as passes
use Rattle.rules.specs.Answers as rules
use Rattle.rules.proofs.Answers.{refusal-most, length-words, pass-refused, pass-admitted}
use Rattle.rules.proofs.Passes.{Judges, judges-resolve, judges-access, judges-linear}
use Rattle.records.specs.Records.{words, Laid, Added}
use Rattle.records.proofs.Laws.{laid-join, laid-long}
use Rattle.nodes.proofs.Admission.{refused-number}
use Rattle.passes.specs.declared.Offence.{Offence}
use Rattle.passes.specs.declared.Pass.{Pass}
use Rattle.passes.specs.declared.Pass.TheVariants as pass
use Rattle.passes.specs.Verdicts.{Verdict, answer_of, verdict_of, Judged, records_of, verdict_by}

-- A pass: the first record, from a buffer of four words

sets-out : (ws l : List ℕ) (i : ℕ) → length l ≤ i → sets l i ws ≡ l
sets-out [] l i h = refl
sets-out (w ∷ ws) l i h = ap (λ (m : List ℕ). sets m (suc i) ws) (set_out l i w h) ∙ sets-out ws l (suc i) (omega arith)

pub first_none : (s : List ℕ) {e : ℕ → ℕ} (l : List Rec) {o : List ℕ} {k : ℕ} → Laid e (replicate 4 0) 0 l o k → k ≡ 0 → None ≡ verdict_by s l
first_none s [] L e = refl
first_none s (r ∷ l) {o} {k} L z = let c : k ≡ 0 + suc (length l) = L.count in absurd (omega arith)

abbrev told : Option Offence → Verdict
told o = Ok o

abbrev refused : Offence → Option Offence
refused o = Some o

pub first_one : (s : List ℕ) {e : ℕ → ℕ} (l : List Rec) {o : List ℕ} {k p f t : ℕ} → Laid e (replicate 4 0) 0 l o k → (k ≡ 0 → ⊥)
    → p ≡ get_or o 1 0 → f ≡ rules.span_from s p → t ≡ rules.span_to s p → refused (record { code = get_or o 0 0; place = get_or o 1 0; from = f; to = t }) ≡ verdict_by s l
first_one s [] {k = k} L n z x y = let c : k ≡ 0 + 0 = L.count in absurd (n (omega arith))
first_one s {e} (r ∷ l) {o} L n z x y =
    let w : o ≡ r.code ∷ r.place ∷ r.related ∷ e r.place ∷ [] = L.words ∙ sets-out (words e l) (r.code ∷ r.place ∷ r.related ∷ e r.place ∷ []) 4 (omega arith) in
    rw (x, y, z, w)

case-image : (r : ℕ) → (r ≡ 0 → ⊥) → r ≤ 8 → Err (refusal_of r) ≡ verdict_of (rules.image_refused r)
case-image r n h = sym (simp (ne_eqb r 0 n, lt-ltb r 9 (omega arith)))

case-code : (a : rules.Answer) → 9 ≤ a.number → told (refused (record { code = a.number; place = a.place; from = a.from; to = a.to })) ≡ verdict_of a
case-code a h = sym (simp (ne_eqb a.number 0 (λ e. omega arith), le-ltb a.number 9 h))

first-numbers : (s : List ℕ) (l : List Rec) → answer_of (Ok (verdict_by s l)) ≡ rules.verdict s l
first-numbers s [] = refl
first-numbers s (r ∷ l) = refl

first-case : (s : List ℕ) (p : passes.PassRules) (l : List Rec) → 9 ≤ p.least → Ok (verdict_by s (passes.of_pass p l)) ≡ verdict_of (rules.verdict s (passes.of_pass p l))
unfolding passes.of_pass
first-case s p [] h = refl
first-case s p (r ∷ l) h = go (first-case s p l h) (both (leb p.least r.code) (leb r.code p.most)) refl
  where
    go : Ok (verdict_by s (passes.of_pass p l)) ≡ verdict_of (rules.verdict s (passes.of_pass p l)) → (b : Bool) → both (leb p.least r.code) (leb r.code p.most) ≡ b
        → Ok (verdict_by s (pick b (r ∷ passes.of_pass p l) (passes.of_pass p l))) ≡ verdict_of (rules.verdict s (pick b (r ∷ passes.of_pass p l) (passes.of_pass p l)))
    go i true e = let g = leb-true p.least r.code (both_left _ _ e) in case-code (rules.refused_at s r.code r.place) (omega arith)
    go i false e = i

abbrev no_image : Refusal → Verdict
no_image r = Err r

pub judged-refused : (pass : Tree → List Rec) (s : List ℕ) (k : Refusal) → admission_of (refusal s) s ≡ Err k → Judged pass s (Err k)
judged-refused pass s k e =
    let n = (refused-is (refusal s) s k e).0 in
    let d = refused-number s k e in
    record {
      numbers = ap rules.image_refused d ∙ sym (pass-refused pass s n);
      case = ap no_image (refused-is (refusal s) s k e).1 ∙ case-image (refusal s) n (refusal-most s) ∙ sym (ap verdict_of (pass-refused pass s n));
    }

first_part : (p : passes.PassRules) (s : List ℕ) → 9 ≤ p.least → Judges (tree s) p → Ok (verdict_by s (p.part (tree s))) ≡ verdict_of (rules.verdict s (p.part (tree s)))
first_part p s h j = ap (λ (l : List Rec). told (verdict_by s l)) (sym j.part) ∙ first-case s p (offences (tree s)) h ∙ ap (λ (l : List Rec). verdict_of (rules.verdict s l)) j.part

judged-by : (p : passes.PassRules) (s : List ℕ) {v : Verdict} → 9 ≤ p.least → refusal s ≡ 0 → Judges (tree s) p → v ≡ Ok (verdict_by s (p.part (tree s))) → Judged p.part s v
judged-by p s h e j f = record {
  numbers = ap answer_of f ∙ first-numbers s (p.part (tree s)) ∙ sym (pass-admitted p.part s e);
  case = f ∙ first_part p s h j ∙ sym (ap verdict_of (pass-admitted p.part s e));
}

-- also where the case is named by the numbers
pub judged-numbers : (p : passes.PassRules) (s : List ℕ) {v : Verdict} → 9 ≤ p.least → refusal s ≡ 0 → Judges (tree s) p → v ≡ verdict_of (rules.verdict s (p.part (tree s))) → Judged p.part s v
judged-numbers p s h e j f = judged-by p s h e j (f ∙ sym (first_part p s h j))

pub judged-admitted : (p : Pass) (s : List ℕ) {o : Option Offence} → refusal s ≡ 0 → o ≡ verdict_by s (records_of p (tree s)) → Judged (records_of p) s (Ok o)
judged-admitted pass.Resolve s e f = judged-by passes.resolving s (omega arith) e (judges-resolve s e) (ap told f)
judged-admitted pass.Access s e f = judged-by passes.accessing s (omega arith) e (judges-access s e) (ap told f)
judged-admitted pass.Linear s e f = judged-by passes.linearity s (omega arith) e (judges-linear s e) (ap told f)

-- what each pass lists is what `list_with` promises
pub listed_by : {X : Type 0} (t : X → Tree) {p q : Pass} (most : ℕ) {o o' : List ℕ} {k : ℕ} → p ≡ q → most ≤ 2 ^ 38
    → Added (λ x. entry_of (t x)) (λ x. records_of q (t x)) most o 0 o' k → Added (λ x. entry_of (t x)) (λ x. records_of p (t x)) (2 ^ 38) o 0 o' k
listed_by t most e h a = record { laid = λ x. rw e (a.laid x); few = let f = a.few in omega arith }

-- how many records the three passes have
pub offences-many : (t : Tree) → length (offences t) ≡ length (resolve t) + length (access t) + length (linear t)
unfolding offences
offences-many t = let a = length-append (resolve t) (access t ++ linear t) in let b = length-append (access t) (linear t) in omega arith

-- what a pass writes into the rest of a buffer after k records follows them
sets-in : (w o : List ℕ) (i : ℕ) → i + length w ≤ length o → sets o i w ≡ take i o ++ (w ++ drop (i + length w) o)
sets-in w o i h = sets-eq w o i h ∙ append_assoc (take i o) w (drop (i + length w) o)

module _ (d : ℕ → ℕ) (o : List ℕ) (k i e : ℕ) {l : List Rec} {v : List ℕ} {n : ℕ} (p : i ≡ 4 * k) (q : e ≡ length o) (h : 4 * (k + length l) ≤ length o) where
  laid-rest : Laid d (take (e - i) (drop i o)) 0 l v n → Laid d o k l (take i o ++ (v ++ drop (e - i) (drop i o))) (k + n)
  laid-rest L =
      let w = words d l in
      let b = length-drop i o in
      let m = length-words d l in
      let whole : take (e - i) (drop i o) ≡ drop i o = take_all (e - i) (drop i o) (omega arith) in
      let over : drop (e - i) (drop i o) ≡ [] = drop_of_length-le (drop i o) {i = e - i} (omega arith) in
      let z : i + (0 + length w) ≡ 4 * k + length w = omega arith in
      record {
        count = let c = L.count in omega arith;
        words =
            ap (λ (r : List ℕ). take i o ++ (v ++ r)) over
            ∙ ap (λ (r : List ℕ). take i o ++ r) (append-nil v ∙ L.words ∙ ap (λ (r : List ℕ). sets r 0 w) whole ∙ sets-in w (drop i o) 0 (omega arith))
            ∙ ap (λ (r : List ℕ). take i o ++ (w ++ r)) (drop-drop (0 + length w) i o ∙ ap (λ (j : ℕ). drop j o) z)
            ∙ ap (λ (j : ℕ). take j o ++ (w ++ drop (4 * k + length w) o)) p ∙ sym (sets-in w o (4 * k) (omega arith));
      }

  pub added-rest : {most : ℕ} → Added (λ (_ : Unit {0}). d) (λ _. l) most (take (e - i) (drop i o)) 0 v n
      → Added (λ (_ : Unit {0}). d) (λ _. l) most o k (take i o ++ (v ++ drop (e - i) (drop i o))) (k + n)
  added-rest a = let f = a.few in record { laid = λ x. laid-rest (a.laid x); few = omega arith }

-- so the passes, one after the other: each has room, and together they lay the whole list
module _ (t : Tree) (o : List ℕ) (h : 4 * length (offences t) ≤ length o) where
  pub room-resolve : 4 * (0 + length (resolve t)) ≤ length o
  room-resolve = let n = offences-many t in omega arith

  module _ {m : ℕ} {o₁ : List ℕ} {a : ℕ} (A : Added (λ (_ : Unit {0}). entry_of t) (λ _. resolve t) m o 0 o₁ a) where
    pub room-access : 4 * (a + length (access t)) ≤ length o₁
    room-access = let n = offences-many t in let l = laid-long (A.laid tt) in let c = (A.laid tt).count in omega arith

    module _ {m' : ℕ} {o₂ : List ℕ} {b : ℕ} (B : Added (λ (_ : Unit {0}). entry_of t) (λ _. access t) m' o₁ a o₂ b) where
      pub room-linear : 4 * (b + length (linear t)) ≤ length o₂
      room-linear =
          let n = offences-many t in
          let l = laid-long (B.laid tt) ∙ laid-long (A.laid tt) in
          let c = (A.laid tt).count in
          let d = (B.laid tt).count in
          omega arith

      pub laid-all : {m'' : ℕ} {o₃ : List ℕ} {c : ℕ} → Added (λ (_ : Unit {0}). entry_of t) (λ _. linear t) m'' o₂ b o₃ c → Laid (entry_of t) o 0 (offences t) o₃ c
      unfolding offences
      laid-all C = laid-join (A.laid tt) (laid-join (B.laid tt) (C.laid tt))
