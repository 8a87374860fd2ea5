-- What the answers of the face add to the count, and the laws of the steps through the file.
use Prim.Native.Nat.{ℕ, zero, suc, ◌+◌, ◌*◌, ◌-◌, ◌<◌, ◌≤◌}
use mathlib.Core.Path.{◌≡◌, refl, ap, sym, ◌∙◌, subst}
use mathlib.Core.Bool.{Bool, true, false}
use mathlib.Core.List.{List}
use native.Mathlib.Omega.{arith}
use borrow.Author.Tests.{eq-eqb, ne_eqb, lt-ltb, le-ltb}
use lib.ListN.{length, get_or, take, drop}
use Rattle.std.specs.Prelude.{Result, Ok, Err, Option, Some, None}
use Rattle.std.specs.Result.{IfOk, OnErr}
use Rattle.image.specs.Node.{full_word}
use Rattle.rules.specs.Tree.{Tree}
use Rattle.rules.specs.Vocabulary.{Rec}
use Rattle.rules.specs.Linear.{linear}
use Rattle.image.specs.declared.Refusal.{Refusal}
use Rattle.typeck.specs.declared.Unlisted.{Unlisted}
use Rattle.typeck.specs.Face.{Verdict, Judged, Replied}
use Rattle.recording.specs.declared.tell.Numbers.{Numbers}
use Rattle.recording.specs.declared.list.Part.{Part}
use Rattle.recording.specs.declared.list.Parts.{Parts}
use Rattle.recording.specs.Told.{difference, record_words, record_bytes, verdict_at, reply_at, head_of}
use Rattle.recording.specs.Told.{list_differences, part_of, parts_of}
use Rattle.recording.proofs.Laws.{Lies, part-is}
use Rattle.replay.specs.declared.ask.Asked.{Asked}
use Rattle.replay.specs.declared.ask.Asked.TheVariants as asked
use Rattle.replay.specs.declared.Step.{Step}
use Rattle.replay.specs.Differences.{of_verdict, of_reply, of_listed, pass_difference, pass_differences}
use Rattle.replay.specs.Differences.{verdict_differences, question_difference, question_differences, listed_for, words_for}
use Rattle.replay.specs.Differences.{words_in, zeros, list_difference, short_difference, parts_differences, lists_by, lists_differences, step_to}
use Rattle.replay.specs.Differences.{ends_early, whole, place_of, differ_of, after, steps, name_by, name_step, names_step, answer_differences}
use Rattle.replay.specs.Differences.{answers_by, answers_step, image_by, image_step, told, name_told, names_told}
use Rattle.replay.specs.Differences.{answers_told, answers_told_by, image_told, image_told_by}

-- What is said of an answer is said of one that is equal to it

pub counts-as : {E : Type 0} {a b m k : ℕ} (r : Result ℕ E) → a ≡ b → m ≤ k → IfOk r (λ (n : ℕ). (n ≡ a) × (n ≤ m)) → IfOk r (λ (n : ℕ). (n ≡ b) × (n ≤ k))
counts-as (Ok n) e l h = (h.0 ∙ e, omega arith)
counts-as (Err x) e l h = tt

pub steps-as : {E : Type 0} {a b : Option Step} (r : Result (Option Step) E) → a ≡ b → IfOk r (λ (step : Option Step). step ≡ a) → IfOk r (λ (step : Option Step). step ≡ b)
steps-as r e h = subst (λ (m : Option Step). IfOk r (λ (step : Option Step). step ≡ m)) e h

pub fails-as : {T E : Type 0} {a b : ℕ} (r : Result T E) → a ≡ b → OnErr r (0 < a) → OnErr r (0 < b)
fails-as r e h = subst (λ (m : ℕ). OnErr r (0 < m)) e h

-- The answers

pub judged-differs : (pass : Tree → List Rec) (f : List ℕ) (at n : ℕ) (s : List ℕ) {v : Verdict} {r : ℕ} →
    r ≡ difference (verdict_at f at n) (of_verdict v) → Judged pass s v → r ≡ pass_difference pass f at n s
unfolding pass_difference
judged-differs pass f at n s e J = e ∙ ap (λ (v : Verdict). difference (verdict_at f at n) (of_verdict v)) J.case

-- where a write fails, there is a difference to tell
pub judged-told : (pass : Tree → List Rec) (f : List ℕ) (at n : ℕ) (s : List ℕ) {v : Verdict} → Judged pass s v →
    0 < difference (verdict_at f at n) (of_verdict v) → 0 < pass_difference pass f at n s
judged-told pass f at n s J h = let e = judged-differs pass f at n s refl J in omega arith

pub replied-differs : (asked : Tree → List ℕ → Bool) (f : List ℕ) (at n : ℕ) (s w : List ℕ) {v : Result Bool Refusal} {r : ℕ} →
    r ≡ difference (reply_at f at n) (of_reply v) → Replied asked s w v → r ≡ question_difference asked f at n s w
unfolding question_difference
replied-differs asked f at n s w e J = e ∙ ap (λ (v : Result Bool Refusal). difference (reply_at f at n) (of_reply v)) J.case

pub replied-told : (asked : Tree → List ℕ → Bool) (f : List ℕ) (at n : ℕ) (s w : List ℕ) {v : Result Bool Refusal} → Replied asked s w v →
    0 < difference (reply_at f at n) (of_reply v) → 0 < question_difference asked f at n s w
replied-told asked f at n s w J h = let e = replied-differs asked f at n s w refl J in omega arith

-- The lists

pub listed-as : (to : Asked) {a : Asked} (s w : List ℕ) {r : Result ℕ Unlisted} {w' : List ℕ} → a ≡ to → r ≡ listed_for to s (length w) →
    w' ≡ words_for to s w → (r ≡ listed_for a s (length w)) × (w' ≡ words_for a s w)
listed-as to s w e p q =
    (p ∙ sym (ap (λ (a : Asked). listed_for a s (length w)) e), q ∙ sym (ap (λ (a : Asked). words_for a s w) e))

pub list-differs : (a : Asked) (f : List ℕ) (part : Part) (n : ℕ) (s : List ℕ) {w w' : List ℕ} {r : ℕ} →
    r ≡ list_differences n f part (of_listed (listed_for a s (record_words * part.count))) w' → w' ≡ words_in a s (record_words * part.count) w → w ≡ zeros →
    r ≡ list_difference a f part n s
unfolding list_difference
list-differs a f part n s e p q =
    e
    ∙ ap (λ (w : List ℕ). list_differences n f part (of_listed (listed_for a s (record_words * part.count))) w)
    (p ∙ ap (λ (w : List ℕ). words_in a s (record_words * part.count) w) q)

pub short_none : (k : ℕ) (s : List ℕ) → k ≡ 0 → 0 ≡ short_difference k s
unfolding short_difference
short_none k s e = simp (eq-eqb k 0 e)

pub short-some : (k : ℕ) (s : List ℕ) {a : Numbers} {r : ℕ} → (k ≡ 0 → ⊥) → a ≡ of_listed (listed_for asked.Whole s (record_words * k - 1)) →
    r ≡ difference (head_of 9 0) a → r ≡ short_difference k s
unfolding short_difference
short-some k s h e d = simp (ne_eqb k 0 h) (d ∙ ap (difference (head_of 9 0)) e)

pub lists-are : (f : List ℕ) (at k n : ℕ) (s : List ℕ) {whole : Part} {parts : Parts} {a b c : ℕ} → Lies whole at k →
    parts ≡ parts_of f at k → a ≡ list_difference asked.Whole f whole n s → b ≡ short_difference k s →
    c ≡ parts_differences parts f n s → a + b + c ≡ lists_differences f at k n s
unfolding lists_differences
lists-are f at k n s {whole} {parts} {a} {b} {c} l p x y z =
    let w : whole ≡ part_of at k = part-is l in
    let all : lists_by parts f whole n s ≡ lists_by (parts_of f at k) f (part_of at k) n s = cc in
    let short : short_difference whole.count s ≡ short_difference k s = ap (λ (m : ℕ). short_difference m s) l.1 in
    let same : a + b + c ≡ lists_by parts f whole n s = omega arith in
    same ∙ all

-- they are what is told one after the other
pub lists-told : (f : List ℕ) (at k n : ℕ) (s : List ℕ) {whole : Part} {parts : Parts} → Lies whole at k → parts ≡ parts_of f at k →
    list_difference asked.Whole f whole n s + short_difference k s + parts_differences parts f n s ≡ lists_differences f at k n s
lists-told f at k n s l p = lists-are f at k n s l p refl refl refl

-- The steps

module _ (one : ℕ → Option Step) where
  steps_on : (m at d : ℕ) {st : Step} → 0 < m → Some st ≡ one at → steps one m at d ≡ steps one (m - 1) st.at (d + st.differ)
  unfolding steps
  steps_on zero at d l e = absurd (omega arith)
  steps_on (suc m) at d {st} l e =
      let g : whole (one at) ≡ true = ap whole (sym e) in
      let x : place_of (one at) ≡ st.at = ap place_of (sym e) in
      let y : differ_of (one at) ≡ st.differ = ap differ_of (sym e) in
      let p : suc m - 1 ≡ m = omega arith in
      let q : steps one (suc m - 1) st.at (d + st.differ) ≡ steps one m (place_of (one at)) (d + differ_of (one at)) = cc in
      simp g (sym q)

  steps-stop : (m at d : ℕ) → 0 < m → None ≡ one at → steps one m at d ≡ ends_early
  unfolding steps
  steps-stop zero at d l e = absurd (omega arith)
  steps-stop (suc m) at d l e = let g : whole (one at) ≡ false = ap whole (sym e) in simp g

  steps-over : (m at d : ℕ) → m ≡ 0 → steps one m at d ≡ step_to at d
  unfolding steps
  steps-over zero at d e = refl
  steps-over (suc m) at d e = absurd (omega arith)

  -- i of k steps are behind, and the rest of them is ahead
  abbrev pub Stepped : ℕ → ℕ → ℕ → ℕ → ℕ → Type 0
  Stepped k from i at d = steps one k from 0 ≡ steps one (k - i) at d

  pub stepped-none : (k from : ℕ) → Stepped k from 0 from 0
  stepped-none k from = let e : k - 0 ≡ k = omega arith in ap (λ (m : ℕ). steps one m from 0) (sym e)

  pub stepped-more : (k from i at d : ℕ) {st : Step} → Stepped k from i at d → i < k → Some st ≡ one at →
      Stepped k from (i + 1) st.at (d + st.differ)
  stepped-more k from i at d {st} S l e =
      let p : k - i - 1 ≡ k - (i + 1) = omega arith in
      S ∙ steps_on (k - i) at d (omega arith) e ∙ ap (λ (m : ℕ). steps one m st.at (d + st.differ)) p

  pub stepped-stop : (k from i at d : ℕ) → Stepped k from i at d → i < k → None ≡ one at → None ≡ steps one k from 0
  stepped-stop k from i at d S l e = sym (S ∙ steps-stop (k - i) at d (omega arith) e)

  pub stepped-all : (k from i at d : ℕ) {r : Option Step} → Stepped k from i at d → k ≤ i → r ≡ step_to at d → r ≡ steps one k from 0
  stepped-all k from i at d S l z = z ∙ sym (S ∙ steps-over (k - i) at d (omega arith))

-- .. and what is told by them
module _ (tells : ℕ → ℕ) (one : ℕ → Option Step) where
  told-first : (m at : ℕ) → 0 < m → tells at ≤ told tells one m at
  unfolding told
  told-first zero at l = absurd (omega arith)
  told-first (suc m) at l = omega arith

  told-on : (m at : ℕ) {st : Step} → 0 < m → Some st ≡ one at → told tells one (m - 1) st.at ≤ told tells one m at
  unfolding told
  told-on zero at l e = absurd (omega arith)
  told-on (suc m) at {st} l e =
      let g : whole (one at) ≡ true = ap whole (sym e) in
      let x : place_of (one at) ≡ st.at = ap place_of (sym e) in
      let p : suc m - 1 ≡ m = omega arith in
      let q : told tells one (suc m - 1) st.at ≡ told tells one m (place_of (one at)) = cc in
      simp g (omega arith)

  -- what the steps tell that are ahead is told by all of them
  abbrev pub Told : ℕ → ℕ → ℕ → ℕ → Type 0
  Told k from i at = told tells one (k - i) at ≤ told tells one k from

  pub told-none : (k from : ℕ) → Told k from 0 from
  told-none k from =
      let p : k - 0 ≡ k = omega arith in let e : told tells one (k - 0) from ≡ told tells one k from = cc in omega arith

  pub told-more : (k from i at : ℕ) {st : Step} → Told k from i at → i < k → Some st ≡ one at → Told k from (i + 1) st.at
  told-more k from i at {st} T l e =
      let p : k - (i + 1) ≡ k - i - 1 = omega arith in
      let q : told tells one (k - (i + 1)) st.at ≡ told tells one (k - i - 1) st.at = cc in
      let m = told-on (k - i) at (omega arith) e in
      omega arith

  pub told-here : (k from i at : ℕ) → Told k from i at → i < k → 0 < tells at → 0 < told tells one k from
  told-here k from i at T l h = let m = told-first (k - i) at (omega arith) in omega arith

-- One name

module _ (f : List ℕ) (n : ℕ) (s : List ℕ) (at : ℕ) where
  pub name_ends : {r : Option Step} → length f - at < 1 → r ≡ ends_early → r ≡ name_step f n s at
  unfolding name_step
  name_ends h e = simp (lt-ltb (length f - at) 1 h) e

  name_stepped : (size : ℕ) → 1 ≤ length f - at → size ≡ get_or f at 0 → name_by f (at + 1) size n s ≡ name_step f n s at
  unfolding name_step
  name_stepped size h e = simp (le-ltb (length f - at) 1 h) (ap (λ (k : ℕ). name_by f (at + 1) k n s) e)

  pub name-cut : (size : ℕ) {r : Option Step} → 1 ≤ length f - at → size ≡ get_or f at 0 → length f - (at + 1) < size + 3 → r ≡ ends_early
      → r ≡ name_step f n s at
  name-cut size h e l z =
      let b : name_by f (at + 1) size n s ≡ ends_early = simp (lt-ltb (length f - (at + 1)) (size + 3) l) in z ∙ sym b ∙ name_stepped size h e

  pub name-whole : (size d : ℕ) {r : Option Step} → 1 ≤ length f - at → size ≡ get_or f at 0 → size + 3 ≤ length f - (at + 1) →
      d ≡ question_differences f (at + 1 + size) n s (take (at + 1 + size - (at + 1)) (drop (at + 1) f)) → r ≡ step_to
      (at + 1 + size + 3) d →
      r ≡ name_step f n s at
  name-whole size d h e l q z =
      let w = question_differences f (at + 1 + size) n s (take (at + 1 + size - (at + 1)) (drop (at + 1) f)) in
      let b : name_by f (at + 1) size n s ≡ step_to (at + 1 + size + 3) w = simp (le-ltb (length f - (at + 1)) (size + 3) l) in
      z ∙ ap (step_to (at + 1 + size + 3)) q ∙ sym b ∙ name_stepped size h e

  pub name-told : (size : ℕ) → 1 ≤ length f - at → size ≡ get_or f at 0 → size + 3 ≤ length f - (at + 1) →
      0 < question_differences f (at + 1 + size) n s (take (at + 1 + size - (at + 1)) (drop (at + 1) f)) → 0 < name_told f n s at
  name-told size h e l t = let q = ap differ_of (name-whole size _ h e l refl refl) in omega arith

-- The answers on one image

module _ (f : List ℕ) (at : ℕ) (s : List ℕ) where
  answers_stepped : (k n : ℕ) → k ≡ full_word f (at + 37) → n ≡ get_or f at 0 → answers_by f at k n s ≡ answers_step f at s
  unfolding answers_step
  answers_stepped k n e g = ap (λ (k : ℕ). answers_by f at k n s) e ∙ ap (λ (n : ℕ). answers_by f at (full_word f (at + 37)) n s) g

  pub answers-cut : (k n : ℕ) {r : Option Step} → k ≡ full_word f (at + 37) → n ≡ get_or f at 0 → length f - (at + 41) < record_bytes * k + 1 → r ≡ ends_early
      →
      r ≡ answers_step f at s
  answers-cut k n e g l z =
      let b : answers_by f at k n s ≡ ends_early = simp (lt-ltb (length f - (at + 41)) (record_bytes * k + 1) l) in z ∙ sym b ∙ answers_stepped k n e g

  pub answers-whole : (k n m : ℕ) {a b c d : ℕ} {st : Option Step} → k ≡ full_word f (at + 37) → n ≡ get_or f at 0 →
      record_bytes * k + 1 ≤ length f - (at + 41) → a ≡ pass_differences f (at + 1) n s → b ≡ verdict_differences f (at + 1) n s →
      c ≡ lists_differences f (at + 41) k n s → d ≡ pass_difference linear f (at + 1 + 24) n s → m ≡ get_or f (at + 41 + record_bytes * k) 0 →
      st ≡ names_step f n s m (at + 41 + record_bytes * k + 1) → after (a + b + c + d) st ≡ answers_step f at s
  answers-whole k n m {a} {b} {c} {d} {st} e g l p v q u y z =
      let x : st ≡ names_step f n s (get_or f (at + 41 + record_bytes * k) 0) (at + 41 + record_bytes * k + 1) = z ∙ ap (λ (m : ℕ). names_step f n s m
      (at + 41 + record_bytes * k + 1)) y in
      let t : a + b + c + d ≡ answer_differences f at k n s = cc in
      let w : answers_by f at k n s ≡ after (answer_differences f at k n s) (names_step f n s (get_or f (at + 41 + record_bytes * k) 0)
      (at + 41 + record_bytes * k + 1)) =
      simp (le-ltb (length f - (at + 41)) (record_bytes * k + 1) l) in
      ap (λ (h : ℕ). after h st) t ∙ ap (after (answer_differences f at k n s)) x ∙ sym w ∙ answers_stepped k n e g

  pub answers-told : (k n m : ℕ) → k ≡ full_word f (at + 37) → n ≡ get_or f at 0 → record_bytes * k + 1 ≤ length f - (at + 41) →
      m ≡ get_or f (at + 41 + record_bytes * k) 0 →
      answer_differences f at k n s + names_told f n s m (at + 41 + record_bytes * k + 1) ≡ answers_told f at s
  unfolding answers_told
  answers-told k n m e g l y =
      let w : answers_told_by f at k n s
      ≡ answer_differences f at k n s + names_told f n s (get_or f (at + 41 + record_bytes * k) 0) (at + 41 + record_bytes * k + 1)
      = simp (le-ltb (length f - (at + 41)) (record_bytes * k + 1) l) in
      ap (λ (m : ℕ). answer_differences f at k n s + names_told f n s m (at + 41 + record_bytes * k + 1)) y
      ∙ sym w ∙ ap (λ (k : ℕ). answers_told_by f at k n s) e ∙ ap (λ (n : ℕ). answers_told_by f at (full_word f (at + 37)) n s) g

-- One image

module _ (f : List ℕ) (at : ℕ) where
  pub image-ends : {r : Option Step} → length f - at < 4 → r ≡ ends_early → r ≡ image_step f at
  unfolding image_step
  image-ends h e = simp (lt-ltb (length f - at) 4 h) e

  image-by : (size : ℕ) → 4 ≤ length f - at → size ≡ full_word f at → image_by f (at + 4) size ≡ image_step f at
  unfolding image_step
  image-by size h e = simp (le-ltb (length f - at) 4 h) (ap (image_by f (at + 4)) e)

  pub image-cut : (size : ℕ) {r : Option Step} → 4 ≤ length f - at → size ≡ full_word f at → length f - (at + 4) < size + 41 → r ≡ ends_early
      → r ≡ image_step f at
  image-cut size h e l z =
      let b : image_by f (at + 4) size ≡ ends_early = simp (lt-ltb (length f - (at + 4)) (size + 41) l) in z ∙ sym b ∙ image-by size h e

  pub image-whole : (size : ℕ) {r : Option Step} → 4 ≤ length f - at → size ≡ full_word f at → size + 41 ≤ length f - (at + 4) →
      r ≡ answers_step f (at + 4 + size) (take (at + 4 + size - (at + 4)) (drop (at + 4) f)) → r ≡ image_step f at
  image-whole size h e l z =
      let w = answers_step f (at + 4 + size) (take (at + 4 + size - (at + 4)) (drop (at + 4) f)) in
      let b : image_by f (at + 4) size ≡ w = simp (le-ltb (length f - (at + 4)) (size + 41) l) in z ∙ sym b ∙ image-by size h e

  pub image-told : (size : ℕ) → 4 ≤ length f - at → size ≡ full_word f at → size + 41 ≤ length f - (at + 4) →
      answers_told f (at + 4 + size) (take (at + 4 + size - (at + 4)) (drop (at + 4) f)) ≡ image_told f at
  unfolding image_told
  image-told size h e l =
      let w = answers_told f (at + 4 + size) (take (at + 4 + size - (at + 4)) (drop (at + 4) f)) in
      let b : image_told_by f (at + 4) size ≡ w = simp (le-ltb (length f - (at + 4)) (size + 41) l) in
      sym b ∙ simp (le-ltb (length f - at) 4 h) (ap (image_told_by f (at + 4)) e)
