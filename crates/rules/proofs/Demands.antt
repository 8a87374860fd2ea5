-- The three demands of specs/Demands hold: put together from what is proved in Answers, Passes, Full and Numbers.
use Prim.Native.Nat.{ℕ, zero, suc, ◌*◌, ◌<◌, ◌≤◌}
use mathlib.Core.Path.{◌≡◌, refl, ap, ap₂, ◌∙◌, sym, subst}
use mathlib.Core.Bool.{Bool, true, false, true≢false}
use mathlib.Core.List.Memᴰ
use mathlib.Core.List.{List, [], ◌∷◌, ◌++◌, Memᴰ}
use mathlib.Core.Logic.{◌⊎◌, ⊎_elim, ◌↔◌}
use native.Mathlib.Omega.{arith}
use borrow.Author.Tests.{ltb-true, ltb-false, eq-eqb, ne_eqb}
use lib.Dec.{ltb}
use lib.ListN.{length, replicate}
use Rattle.image.specs.Pick.{pick}
use Rattle.image.specs.Admit.{refusal}
use Rattle.rules.specs.Tree.{Tree, tree}
use Rattle.rules.specs.Spelling.{bytes}
use Rattle.rules.specs.Record.{Rec}
use Rattle.rules.specs.Resolve.{resolve}
use Rattle.rules.specs.Access.{access}
use Rattle.rules.specs.Linear.{linear}
use Rattle.rules.specs.Model.{StateName, is_state, DeclaredAsset, is_declared_asset, KnownAsset, is_known_asset}
use Rattle.rules.specs.All.{offences, Before, Ordered, key, FullList, entry_of}
use Rattle.rules.specs.Passes.{PassRules, resolving, accessing, linearity, of_pass, None, FirstOffence}
use Rattle.rules.specs.Answers.{IsRefused, IsAdmitted, Answer, image_refused, accepted, refused_at, verdict, pass_answer, NameReply, reply_refused, replied, ask, laid, ListReply, list_refused, list_has, list_answer, list_buffer, part_answer, part_words, lent_rows, row, verdict_rows}
use Rattle.rules.specs.Report.{rest, list_lines, record_lines, report_text}
use Rattle.rules.specs.Demands.{EachPass, EachQuestion, Number, TooShort, pass_lines, Demand1, Demand2, Demand3}
use Rattle.rules.proofs.Reflect.{Tells}
use Rattle.rules.proofs.Model.{tells-is_state, tells-is_declared_asset, tells-is_known_asset}
use Rattle.rules.proofs.Unique.{never, full-list-unique}
use Rattle.rules.proofs.Full.{full, only-full}
use Rattle.rules.proofs.Passes.{Judges, judges-resolve, judges-access, judges-linear}
use Rattle.rules.proofs.Numbers.{equal-numbers}
use Rattle.rules.proofs.Spans.{unjudged}
use Rattle.rules.proofs.Entries.{entry-is}
use Rattle.rules.proofs.Answers.{decide, refusal-most, pass-refused, pass-admitted, decided, pass-accepts, pass-refuses, ask-refused, ask-admitted, list-refused, list-short, list-listed, buffer-refused, buffer-short, buffer-listed, part-refused, part-admitted, part-words-refused, part-words-admitted, in_turn}

-- an image that is refused by a number is not admitted
broken : (s : List ℕ) {r : ℕ} → Number r → refusal s ≡ r → IsRefused s
broken s n e z = omega arith

-- A pass

module _ (p : PassRules) (codes : 9 ≤ p.least) (j : (s : List ℕ) → IsAdmitted s → Judges (tree s) p) (s : List ℕ) where
  abbrev a : Answer
  a = pass_answer p.part s

  none-or-first : IsAdmitted s → None (tree s) p ⊎ ((r : Rec) × FirstOffence (tree s) p r)
  none-or-first = decided p s (j s)

  refuses : IsAdmitted s → (r : Rec) → FirstOffence (tree s) p r → a ≡ refused_at s r.code r.place
  refuses = pass-refuses p s (j s)

  -- a pass that refuses an admitted image does so with one of its codes
  coded : (e : IsAdmitted s) (r : Rec) → FirstOffence (tree s) p r → p.least ≤ a.number
  coded e r f =
      let n : a.number ≡ r.code = ap (λ (x : Answer). x.number) (refuses e r f) in
      let c = f.of.0 in
      omega arith

  zeros : IsRefused s → a ≡ image_refused (refusal s)
  zeros = pass-refused p.part s

  pass-number : (r : ℕ) → Number r → (a.number ≡ r) ↔ (refusal s ≡ r)
  pass-number r n =
      (λ q. ⊎_elim (λ e. absurd (admitted q e)) (λ x. sym (number-refused x) ∙ q) (decide s), λ q. number-refused (broken s n q) ∙ q)
    where
      number-refused : IsRefused s → a.number ≡ refusal s
      number-refused x = ap (λ (y : Answer). y.number) (zeros x)

      admitted : a.number ≡ r → IsAdmitted s → ⊥
      admitted q e =
          ⊎_elim
          (λ (x : None (tree s) p). let z : a.number ≡ 0 = ap (λ (y : Answer). y.number) (pass-accepts p s (j s) e x) in omega arith)
          (λ (f : (r : Rec) × FirstOffence (tree s) p r). let z = coded e f.0 f.1 in omega arith)
          (none-or-first e)

  accepts : IsAdmitted s → (a ≡ accepted) ↔ None (tree s) p
  accepts e = (λ q. ⊎_elim (λ x. x) (λ f. absurd (refused q f)) (none-or-first e), pass-accepts p s (j s) e)
    where
      refused : a ≡ accepted → (r : Rec) × FirstOffence (tree s) p r → ⊥
      refused q f = let z = coded e f.0 f.1 in let n : a.number ≡ 0 = ap (λ (y : Answer). y.number) q in omega arith

  -- the list's records of the pass are its part
  part : (e : IsAdmitted s) (l : List Rec) → FullList (tree s) l → of_pass p l ≡ p.part (tree s)
  part e l f = ap (of_pass p) (only-full s e l f) ∙ (j s e).part

  accepts-list : IsAdmitted s → (l : List Rec) → FullList (tree s) l → (a ≡ accepted) ↔ (of_pass p l ≡ [])
  accepts-list e l f = (
    λ q. part e l f ∙ (j s e).accepts.1 ((accepts e).0 q),
    λ q. pass-admitted p.part s e ∙ ap (verdict s) (sym (part e l f) ∙ q),
  )

  refuses-list : IsAdmitted s → (l : List Rec) → FullList (tree s) l → (r : Rec) (m : List Rec) → of_pass p l ≡ r ∷ m → a ≡ refused_at s r.code r.place
  refuses-list e l f r m q = pass-admitted p.part s e ∙ ap (verdict s) (sym (part e l f) ∙ q)

  -- its part of the list
  part-number : (part_answer p.part s).number ≡ refusal s
  part-number =
      ⊎_elim
      (λ e. ap (λ (x : ListReply). x.number) (part-admitted p.part s e) ∙ sym e)
      (λ r. ap (λ (x : ListReply). x.number) (part-refused p.part s r))
      (decide s)

  part_zeros : (o : List ℕ) → IsRefused s → (part_answer p.part s ≡ list_refused (refusal s)) × (part_words p.part s o ≡ o)
  part_zeros o r = (part-refused p.part s r, part-words-refused p.part s o r)

  parts : (o : List ℕ) → IsAdmitted s → (l : List Rec) → FullList (tree s) l
      → (part_answer p.part s ≡ list_has (length (of_pass p l))) × (part_words p.part s o ≡ laid (entry_of (tree s)) o 0 (of_pass p l))
  parts o e l f = (
    part-admitted p.part s e ∙ ap (λ (m : List Rec). list_has (length m)) (sym (part e l f)),
    part-words-admitted p.part s o e ∙ ap (laid (entry_of (tree s)) o 0) (sym (part e l f)),
  )

-- what holds of a pass whose codes are no refusals and that judges as it should holds of each
each : {P : PassRules → Type 0} → ((p : PassRules) → 9 ≤ p.least → ((s : List ℕ) → IsAdmitted s → Judges (tree s) p) → P p) → EachPass P
each f = (f resolving (omega arith) judges-resolve, f accessing (omega arith) judges-access, f linearity (omega arith) judges-linear)

-- A question

module _ (q : Tree → List ℕ → Bool) (Q : Tree → List ℕ → Type 0) (h : (t : Tree) (w : List ℕ) → Tells (q t w) (Q t w)) (s w : List ℕ) where
  ask-zeros : IsRefused s → ask q s w ≡ reply_refused (refusal s)
  ask-zeros = ask-refused q s w

  -- the bit that it answers
  bit : IsAdmitted s → (b : Bool) → ask q s w ≡ replied b → q (tree s) w ≡ b
  bit e b x = sym (ap (λ (y : NameReply). y.yes) (ask-admitted q s w e)) ∙ ap (λ (y : NameReply). y.yes) x

  ask-number : (r : ℕ) → Number r → ((ask q s w).number ≡ r) ↔ (refusal s ≡ r)
  ask-number r n = (
    λ x. ⊎_elim
        (λ e. let z : (ask q s w).number ≡ 0 = ap (λ (y : NameReply). y.number) (ask-admitted q s w e) in absurd (omega arith))
        (λ e. sym (ap (λ (y : NameReply). y.number) (ask-zeros e)) ∙ x) (decide s),
    λ x. ap (λ (y : NameReply). y.number) (ask-zeros (broken s n x)) ∙ x,
  )

  ask-yes : IsAdmitted s → (ask q s w ≡ replied true) ↔ Q (tree s) w
  ask-yes e = (λ x. (h (tree s) w).so (bit e true x), λ f. ask-admitted q s w e ∙ ap replied ((h (tree s) w).back f))

  ask-no : IsAdmitted s → (ask q s w ≡ replied false) ↔ (Q (tree s) w → ⊥)
  ask-no e = (λ x f. true≢false (sym ((h (tree s) w).back f) ∙ bit e false x), λ f. ask-admitted q s w e ∙ ap replied (not_so (q (tree s) w) refl f))
    where
      not_so : (b : Bool) → q (tree s) w ≡ b → (Q (tree s) w → ⊥) → q (tree s) w ≡ false
      not_so true z f = absurd (f ((h (tree s) w).so z))
      not_so false z f = z

each-question :
    {P : (Tree → List ℕ → Bool) → (Tree → List ℕ → Type 0) → Type 0}
    → ((q : Tree → List ℕ → Bool) (Q : Tree → List ℕ → Type 0) → ((t : Tree) (w : List ℕ) → Tells (q t w) (Q t w)) → P q Q)
    → EachQuestion P
each-question f = (f is_state StateName tells-is_state, f is_declared_asset DeclaredAsset tells-is_declared_asset, f is_known_asset KnownAsset tells-is_known_asset)

-- The list

module _ (s : List ℕ) where
  abbrev count : ℕ
  count = length (offences (tree s))

  -- every full list has so many records
  many : IsAdmitted s → (l : List Rec) → FullList (tree s) l → length l ≡ count
  many e l f = ap length (only-full s e l f)

  module _ (o : List ℕ) where
    abbrev n : ℕ
    n = (list_answer s (length o)).number

    -- the cases of its answer
    data Cases : Type 0 where
      refused : IsRefused s → n ≡ refusal s → Cases
      short : IsAdmitted s → length o < 4 * count → n ≡ 9 → Cases
      roomy : IsAdmitted s → 4 * count ≤ length o → n ≡ 0 → Cases

    number_is : {x : ListReply} → list_answer s (length o) ≡ x → n ≡ x.number
    number_is e = ap (λ (y : ListReply). y.number) e

    cases : Cases
    cases = ⊎_elim (λ e. go e (ltb (length o) (4 * count)) refl) (λ x. refused x (number_is (list-refused s (length o) x))) (decide s)
      where
        go : IsAdmitted s → (b : Bool) → ltb (length o) (4 * count) ≡ b → Cases
        go e true q = let l = ltb-true _ _ q in short e l (number_is (list-short s (length o) e l))
        go e false q = let l = ltb-false _ _ q in roomy e l (number_is (list-listed s (length o) e l))

    list-number : (r : ℕ) → Number r → (n ≡ r) ↔ (refusal s ≡ r)
    list-number r h = (λ q. so cases q, λ q. number_is (list-refused s (length o) (broken s h q)) ∙ q)
      where
        so : Cases → n ≡ r → refusal s ≡ r
        so (refused x z) q = sym z ∙ q
        so (short e l z) q = absurd (omega arith)
        so (roomy e l z) q = absurd (omega arith)

    short-is : TooShort s o → length o < 4 * count
    short-is x = let z = many x.0 x.1.0 x.1.1 in let l = x.1.2 in omega arith

    list-nine : (n ≡ 9) ↔ TooShort s o
    list-nine = (λ q. so cases q, λ x. number_is (list-short s (length o) x.0 (short-is x)))
      where
        so : Cases → n ≡ 9 → TooShort s o
        so (refused x z) q = let m = refusal-most s in absurd (omega arith)
        so (short e l z) q = (e, (offences (tree s), full s e, l))
        so (roomy e l z) q = absurd (omega arith)

    listed-is : IsAdmitted s → (l : List Rec) → FullList (tree s) l → 4 * length l ≤ length o → (list_answer s (length o) ≡ list_has (length l)) × (list_buffer s o ≡ laid (entry_of (tree s)) o 0 l)
    listed-is e l f h =
        let z = many e l f in
        let g : 4 * count ≤ length o = omega arith in
        (list-listed s (length o) e g ∙ ap list_has (sym z), buffer-listed s o e g ∙ ap (laid (entry_of (tree s)) o 0) (sym (only-full s e l f)))

-- a record stands before the later ones, so not among them, and not among the earlier ones
once : (k : Rec → List ℕ) (a b : List Rec) (r : Rec) → Ordered k (a ++ (r ∷ b)) → (Memᴰ r a → ⊥) × (Memᴰ r b → ⊥)
unfolding Ordered
once k [] b r h = (λ m. Memᴰ.not-nil m, λ m. never (k r) (h.0 r m))
once k (q ∷ a) b r h =
    let u = once k a b r h.1 in
    (λ m. ⊎_elim (λ e. never (k r) (subst (λ (x : Rec). Before (k x) (k r)) (sym e) (h.0 r (inside a)))) u.0 (Memᴰ.cases_cons m), u.1)
  where
    inside : (a : List Rec) → Memᴰ r (a ++ (r ∷ b))
    inside [] = Memᴰ.head refl
    inside (x ∷ a) = Memᴰ.tail (inside a)

-- The report

module _ (s : List ℕ) where
  -- what it is, where the image is refused or not, and its list is of the answer a
  abbrev texts : Bool → ListReply → List ℕ
  texts b a = pick b (pass_lines s (list_lines s a)) (bytes "image" ++ rest (refusal s ∷ []))

  text-refused : IsRefused s → report_text s ≡ bytes "image" ++ rest (refusal s ∷ [])
  unfolding report_text
  text-refused r = ap (λ (b : Bool). texts b (list_answer s 32768)) (ne_eqb (refusal s) 0 r)

  text-admitted : IsAdmitted s → report_text s ≡ pass_lines s (list_lines s (list_answer s 32768))
  unfolding report_text
  text-admitted e = ap (λ (b : Bool). texts b (list_answer s 32768)) (eq-eqb (refusal s) 0 e)

  text-listed : IsAdmitted s → (l : List Rec) → FullList (tree s) l → 4 * length l ≤ 32768
      → report_text s ≡ pass_lines s (bytes "list" ++ (rest (length l ∷ []) ++ record_lines s l))
  text-listed e l f h =
      let z = many s e l f in
      text-admitted e ∙ ap (λ (a : ListReply). pass_lines s (list_lines s a)) (list-listed s 32768 e (omega arith))
      ∙ ap (λ (m : List Rec). pass_lines s (bytes "list" ++ (rest (length m ∷ []) ++ record_lines s m))) (sym (only-full s e l f))

  text_short : IsAdmitted s → (l : List Rec) → FullList (tree s) l → 32768 < 4 * length l
      → report_text s ≡ pass_lines s (bytes "list refused" ++ rest (9 ∷ []))
  text_short e l f h =
      let z = many s e l f in
      text-admitted e ∙ ap (λ (a : ListReply). pass_lines s (list_lines s a)) (list-short s 32768 e (omega arith))

-- The lent rows, and plain numbers

module _ {R : Type 0} (blank : R) (s : List ℕ) (z : List R) where
  lent-refused : IsRefused s → lent_rows blank s z ≡ z
  lent-refused r = ap (λ (b : Bool). pick b (replicate 511 blank) z) (ne_eqb (refusal s) 0 r)

  lent-admitted : IsAdmitted s → lent_rows blank s z ≡ replicate 511 blank
  lent-admitted e = ap (λ (b : Bool). pick b (replicate 511 blank) z) (eq-eqb (refusal s) 0 e)

plain : (s : List ℕ) → IsRefused s → verdict_rows s ≡ row (image_refused (refusal s)) ++ row (image_refused (refusal s)) ++ row (image_refused (refusal s))
plain s r =
    ap₂ (λ (a b : Answer). row a ++ row b ++ row (pass_answer linear s)) (pass-refused resolve s r) (pass-refused access s r)
    ∙ ap (λ (c : Answer). row (image_refused (refusal s)) ++ row (image_refused (refusal s)) ++ row c) (pass-refused linear s r)

pub demand-1 : Demand1
demand-1 = record {
  numbers = λ s n. (positive (refusal s) n, refusal-most s);
  pass = each pass-number;
  pass_zeros = each zeros;
  question = each-question ask-number;
  question_zeros = each-question ask-zeros;
  list = list-number;
  list_zeros = λ s o n. (list-refused s (length o) n, buffer-refused s o n);
  short = list-nine;
  short_zeros = λ s o x. (list-short s (length o) x.0 (short-is s o x), buffer-short s o x.0 (short-is s o x));
  part = each part-number;
  part_zeros = each part_zeros;
  lent = lent-refused;
  plain = plain;
  text = text-refused;
}
  where
    positive : (n : ℕ) → (n ≡ 0 → ⊥) → 1 ≤ n
    positive zero h = absurd (h refl)
    positive (suc n) h = omega arith

pub demand-2 : Demand2
demand-2 = record {
  accepts = each accepts;
  refuses = each refuses;
  decided = each none-or-first;
  yes = each-question ask-yes;
  no = each-question ask-no;
  names = equal-numbers;
  unjudged = unjudged;
  lent = lent-admitted;
}

pub demand-3 : Demand3
demand-3 = record {
  full = λ s e. (offences (tree s), full s e);
  only = λ s e. full-list-unique (tree s);
  once = λ s e a b r f. once (key (tree s)) a b r f.ordered;
  lists = λ s o. listed-is s o;
  entries = entry-is;
  accepts = each accepts-list;
  refuses = each refuses-list;
  parts = each parts;
  in_turn = in_turn;
  text = text-listed;
  text_short = text_short;
}
