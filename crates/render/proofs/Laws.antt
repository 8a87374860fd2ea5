-- The line of a pass and of a record; the lines of a list's records, read from their words; the whole report.
use Prim.Native.Nat.{ℕ, suc, ◌+◌, ◌*◌, ◌^◌, ◌<◌, ◌≤◌}
use mathlib.Core.Path.{◌≡◌, refl, ap, ◌∙◌, sym}
use mathlib.Core.Bool.{Bool, true, false}
use mathlib.Core.List.{List, [], ◌∷◌, ◌++◌}
use native.Mathlib.Omega.{arith}
use borrow.Author.Tests.{eq-eqb, ne_eqb, ltb-true, ltb-false}
use lib.Dec.{ltb}
use lib.ListN.{length, length-append, get_or}
use Rattle.image.specs.Pick.{pick}
use Rattle.image.specs.Admit.{refusal, admission_of}
use Rattle.std.specs.Prelude.{Option, Ok, Err}
use Rattle.image.specs.declared.Refusal.{Refusal}
use Rattle.image.specs.Refusals.{number_of}
use Rattle.image.proofs.Verdict.{refused-is}
use Rattle.rules.specs.Sweep.{run}
use Rattle.rules.specs.Tree.{tree}
use Rattle.rules.specs.Vocabulary.{Rec}
use Rattle.rules.specs.All.{offences, entry_of}
use Rattle.rules.specs.Spelling.{bytes}
use Rattle.rules.specs.Resolve.{resolve}
use Rattle.rules.specs.Access.{access}
use Rattle.rules.specs.Linear.{linear}
use Rattle.rules.specs.Answers.{Answer, pass_answer, span_from, span_to, words, ListReply, list_refused, list_has, list_answer, list_buffer}
use Rattle.rules.proofs.Answers.{list-short, list-listed, buffer-listed, buffer-long, laid-written}
use Rattle.records.proofs.Sweep.{run_none, run-next, run-split}
use Rattle.passes.specs.declared.Offence.{Offence}
use Rattle.typeck.specs.declared.Unlisted.{Unlisted}
use Rattle.typeck.specs.Face.{Stands, answer_of, unlisted_by, listing_of, listed_of}
use Rattle.typeck.proofs.Laws.{Listed, unlisted-positive}
use Rattle.nodes.proofs.Admission.{refused-number}
use Rattle.lines.specs.Line.{digits, rest, Printed}
use Rattle.lines.proofs.Laws.{wrote-join, wrote_as, few-five, few-ten, rest-length}
use Rattle.render.specs.Report.{pass_line, record_line, record_lines, list_lines, report_text, line_of, line_at}

-- the line of a pass
abbrev pub told : Option Offence → Answer
told v = answer_of (Ok v)

pub pass-is : (name : List ℕ) {v w : Option Offence} {o o₁ o₂ : List ℕ} {at k r : ℕ} → v ≡ w → length name < 2 ^ 10 → Printed o at name o₁ k
    → (Printed o₁ k (rest ((told w).number ∷ (told w).place ∷ (told w).from ∷ (told w).to ∷ [])) o₂ r × (r ≤ k + 85))
    → Printed o at (pass_line name (told v)) o₂ r × (r ≤ at + 2 ^ 11)
pass-is name e h W R = let n = W.count in let b = R.1 in (rw e (wrote-join W R.0), omega arith)

-- a word, and the one number after it
pub line-few : {o o₁ o₂ a b t : List ℕ} {at k r : ℕ} (most : ℕ) → length a + 22 ≤ most → a ++ b ≡ t → Printed o at a o₁ k → (Printed o₁ k b o₂ r × (r ≤ k + 22)) → Printed o at t o₂ r × (r ≤ at + most)
line-few most l e W R = let n = W.count in let b = R.1 in (wrote_as e (wrote-join W R.0), omega arith)

-- the line of a record
pub record_is : (s : List ℕ) (code place related entry f t : ℕ) → f ≡ span_from s place → t ≡ span_to s place
    → digits 20 code ++ ((32 ∷ digits 20 place) ++ rest (related ∷ entry ∷ f ∷ t ∷ [])) ≡ line_of s code place related entry
unfolding rest
record_is s code place related entry f t x y = rw (x, y) refl

pub record-few : (code place related entry f t : ℕ) → code < 65536 → place < 65536 → related < 65536 → entry < 65536 → f < 2 ^ 32 → t < 2 ^ 32
    → length (digits 20 code ++ ((32 ∷ digits 20 place) ++ rest (related ∷ entry ∷ f ∷ t ∷ []))) ≤ 46
record-few code place related entry f t a b c d e g =
    let n = length-append (digits 20 code) ((32 ∷ digits 20 place) ++ rest (related ∷ entry ∷ f ∷ t ∷ [])) in
    let m = length-append (digits 20 place) (rest (related ∷ entry ∷ f ∷ t ∷ [])) in
    let r = rest-length related entry f t in
    let u = few-five 20 code (omega arith) in
    let v = few-five 20 place (omega arith) in
    let w = few-five 20 related (omega arith) in
    let z = few-five 20 entry (omega arith) in
    let x = few-ten 20 f (omega arith) in
    let y = few-ten 20 t (omega arith) in
    omega arith

-- the lines of records, read from their words
run-one : {A : Type 0} (f : ℕ → List A) (k : ℕ) → run f k 1 ≡ f k
run-one {A} f k = let e : k + 0 ≡ k = omega arith in run-next f k 0 ∙ ap (λ (l : List A). l ++ f (k + 0)) (run_none f k) ∙ ap f e

line_same : (s : List ℕ) {c p q e c' p' q' e' : ℕ} → c ≡ c' → p ≡ p' → q ≡ q' → e ≡ e' → line_of s c p q e ≡ line_of s c' p' q' e'
line_same s x y z w = rw (x, y, z, w) refl

pub lines_next : (s w : List ℕ) (i : ℕ) {c p q e : ℕ} → c ≡ get_or w (4 * i) 0 → p ≡ get_or w (4 * i + 1) 0 → q ≡ get_or w (4 * i + 2) 0 → e ≡ get_or w (4 * i + 3) 0
    → run (line_at s w) 0 i ++ line_of s c p q e ≡ run (line_at s w) 0 (i + 1)
lines_next s w i x y z u =
    let n : i ≡ 0 + i = omega arith in
    ap (λ (l : List ℕ). run (line_at s w) 0 i ++ l) (line_same s x y z u) ∙ ap (λ (j : ℕ). run (line_at s w) 0 i ++ line_at s w j) n ∙ sym (run-next (line_at s w) 0 i)

lines_from : (s w : List ℕ) (l : List Rec) (k : ℕ) → ((i : ℕ) → i < 4 * length l → get_or w (4 * k + i) 0 ≡ get_or (words (entry_of (tree s)) l) i 0)
    → run (line_at s w) k (length l) ≡ record_lines s l
unfolding record_lines
lines_from s w [] k h = run_none (line_at s w) k
lines_from s w (r ∷ l) k h =
    let z : 4 * k ≡ 4 * k + 0 = omega arith in
    let n : suc (length l) ≡ 1 + length l = omega arith in
    let here : line_at s w k ≡ record_line s r = line_same s (ap (λ (i : ℕ). get_or w i 0) z ∙ h 0 (omega arith)) (h 1 (omega arith)) (h 2 (omega arith)) (h 3 (omega arith)) in
    let later : (i : ℕ) → i < 4 * length l → get_or w (4 * (k + 1) + i) 0 ≡ get_or (words (entry_of (tree s)) l) i 0 =
    λ i g. (let e : 4 * (k + 1) + i ≡ 4 * k + suc (suc (suc (suc i))) = omega arith in ap (λ (j : ℕ). get_or w j 0) e ∙ h (suc (suc (suc (suc i)))) (omega arith)) in
    ap (run (line_at s w) k) n ∙ run-split (line_at s w) k 1 (length l)
    ∙ ap (λ (t : List ℕ). t ++ run (line_at s w) (k + 1) (length l)) (run-one (line_at s w) k ∙ here)
    ∙ ap (λ (t : List ℕ). record_line s r ++ t) (lines_from s w l (k + 1) later)

-- the lines of the list, from what it answers and what it leaves in its buffer
module _ (s o w : List ℕ) (count : ℕ) (e : refusal s ≡ 0) (a : list_has count ≡ list_answer s (length o)) (b : w ≡ list_buffer s o) where
  many : (count ≡ length (offences (tree s))) × (4 * length (offences (tree s)) ≤ length o)
  many = go (ltb (length o) (4 * length (offences (tree s)))) refl
    where
      go : (t : Bool) → ltb (length o) (4 * length (offences (tree s))) ≡ t → (count ≡ length (offences (tree s))) × (4 * length (offences (tree s)) ≤ length o)
      go true q = let z : ◌≡◌ {A = ℕ} 0 9 = ap (λ (l : ListReply). l.number) (a ∙ list-short s (length o) e (ltb-true _ _ q)) in absurd (omega arith)
      go false q = let l = ltb-false (length o) (4 * length (offences (tree s))) q in (ap (λ (x : ListReply). x.records) (a ∙ list-listed s (length o) e l), l)

  pub records-fit : (4 * count ≤ length w) × (length w ≡ length o)
  records-fit =
      let m = many in
      let x = m.0 in
      let y = m.1 in
      let l : length w ≡ length o = ap length b ∙ buffer-long s o in
      (omega arith, l)

  pub lines-listed : (size : ℕ) → length o ≡ size → bytes "list" ++ (rest (count ∷ []) ++ run (line_at s w) 0 count) ≡ list_lines s (list_answer s size)
  lines-listed size f =
      let m = many in
      let at : (i : ℕ) → i < 4 * length (offences (tree s)) → get_or w (4 * 0 + i) 0 ≡ get_or (words (entry_of (tree s)) (offences (tree s))) i 0 =
      λ i g. (let z : 4 * 0 + i ≡ i = omega arith in let l = m.1 in
      ap (λ (j : ℕ). get_or w j 0) z ∙ ap (λ (v : List ℕ). get_or v i 0) (b ∙ buffer-listed s o e m.1) ∙ laid-written (entry_of (tree s)) o (offences (tree s)) i g (omega arith)) in
      ap (λ (t : List ℕ). bytes "list" ++ (rest (count ∷ []) ++ t)) (ap (run (line_at s w) 0) m.0 ∙ lines_from s w (offences (tree s)) 0 at)
      ∙ ap (list_lines s) (a ∙ ap (list_answer s) f)

pub lines-refused : (s o : List ℕ) (v : Listed) (r : Unlisted) (size : ℕ) → length o ≡ size → v ≡ Err r → Stands listing_of listed_of (list_answer s (length o)) v
    → bytes "list refused" ++ rest (unlisted_by r ∷ []) ≡ list_lines s (list_answer s size)
lines-refused s o v r size f e q =
    let p : Stands listing_of listed_of (list_answer s (length o)) (Err r) = rw e at q in
    sym (ap (λ (b : Bool). pick b (bytes "list" ++ (rest (0 ∷ []) ++ record_lines s (offences (tree s)))) (bytes "list refused" ++ rest (unlisted_by r ∷ []))) (ne_eqb (unlisted_by r) 0 (unlisted-positive r)))
    ∙ ap (list_lines s) (p.numbers ∙ ap (list_answer s) f)

-- the whole report
pub report-refused : (s : List ℕ) (k : Refusal) → admission_of (refusal s) s ≡ Err k → bytes "image" ++ rest (number_of k ∷ []) ≡ report_text s
unfolding report_text
report-refused s k e =
    let n = ne_eqb (refusal s) 0 (refused-is (refusal s) s k e).0 in
    rw n (ap (λ (i : ℕ). bytes "image" ++ rest (i ∷ [])) (refused-number s k e))

pub report-admitted : (s : List ℕ) {a b c : Answer} → refusal s ≡ 0 → a ≡ pass_answer resolve s → b ≡ pass_answer access s → c ≡ pass_answer linear s
    → pass_line (bytes "resolve") a ++ (pass_line (bytes "access") b ++ (pass_line (bytes "linear") c ++ list_lines s (list_answer s 32768))) ≡ report_text s
unfolding report_text
report-admitted s e x y z = let n = eq-eqb (refusal s) 0 e in rw (n, x, y, z)
