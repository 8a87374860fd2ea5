-- From the answer of admission to what the face promises: of a question, of the list and of a pass's part of it.
use Prim.Native.Nat.{ℕ, ◌*◌, ◌<◌, ◌≤◌}
use mathlib.Core.Path.{◌≡◌, refl, ap, ◌∙◌, sym}
use mathlib.Core.Bool.{Bool, true, false}
use mathlib.Core.List.{List}
use native.Mathlib.Omega.{arith}
use borrow.Author.Tests.{eq-eqb, ne_eqb}
use lib.ListN.{length}
use Rattle.image.specs.Admit.{refusal, admission_of}
use Rattle.image.specs.declared.Image.{Image}
use Rattle.std.specs.Result.{result_err}
use Rattle.std.specs.Prelude.{Option, Some, Result, Ok, Err}
use Rattle.image.specs.declared.Refusal.{Refusal}
use Rattle.image.specs.Refusals.{number_of, refusal_of}
use Rattle.image.proofs.Refusals.{known, positive, below-nine}
use Rattle.image.proofs.Verdict.{refused-is}
use Rattle.rules.specs.Tree.{Tree, tree}
use Rattle.rules.specs.Vocabulary.{Rec}
use Rattle.rules.specs.All.{offences, entry_of}
use Rattle.rules.specs.Answers as rules
use Rattle.rules.proofs.Answers.{list-refused, list-short, list-listed, buffer-refused, buffer-short, buffer-listed}
use Rattle.records.specs.Records.{words, Laid}
use Rattle.nodes.proofs.Admission.{admitted-by, refused-number}
use Rattle.typeck.specs.declared.Unlisted.{Unlisted}
use Rattle.typeck.specs.declared.Unlisted.TheVariants as unlisted
use Rattle.typeck.specs.Face.{Stands, refused_as, refusal_as, numbered, Replied, unlisted_by, unlisted_of, listing_of, listed_of, ListedAll, part_answer, part_words, ListedPart}

-- The refusal itself

abbrev refusing : Refusal → Option Refusal
refusing k = Some k

pub refused-told : (s : List ℕ) (r : Result Image Refusal) {o : Option Refusal} → r ≡ admission_of (refusal s) s → o ≡ result_err r → Stands refused_as refusal_as (refusal s) o
refused-told s (Ok i) e f =
    let z = (admitted-by s i (sym e)).admitted in
    record { numbers = ap refused_as f ∙ sym z; case = f ∙ sym (ap refusal_as z) }
refused-told s (Err k) e f =
    let d = refused-number s k (sym e) in
    let r = refused-is (refusal s) s k (sym e) in
    record { numbers = ap refused_as f ∙ d; case = f ∙ ap refusing r.1 ∙ sym (simp (ne_eqb (refusal s) 0 r.0)) }

-- A question

abbrev Reply : Type 0
Reply = Result Bool Refusal

abbrev no_reply : Refusal → Reply
no_reply r = Err r

abbrev reply : Bool → Reply
reply b = Ok b

module _ (question : Tree → List ℕ → Bool) (s w : List ℕ) where
  pub replied-refused : (k : Refusal) → admission_of (refusal s) s ≡ Err k → Replied question s w (Err k)
  unfolding rules.ask
  replied-refused k e =
      let d = refused-number s k e in
      let r = refused-is (refusal s) s k e in
      let n = ne_eqb (refusal s) 0 r.0 in
      record { numbers = rw n (ap rules.reply_refused d); case = rw n (rw n (ap no_reply r.1)) }

  pub replied-by : {b : Bool} → refusal s ≡ 0 → b ≡ question (tree s) w → Replied question s w (Ok b)
  unfolding rules.ask
  replied-by e f = let n = eq-eqb (refusal s) 0 e in record { numbers = rw n (ap rules.replied f); case = rw n (ap reply f) }

-- Lists

abbrev pub Listed : Type 0
Listed = Result ℕ Unlisted

-- the refusal of a number is the one that has it
unlisted-known : (r : Unlisted) → unlisted_of (unlisted_by r) ≡ r
unlisted-known (unlisted.Image k) = simp (ne_eqb (number_of k) 9 (λ e. let h = below-nine k in omega arith), known k)
unlisted-known unlisted.Room = refl

pub unlisted-positive : (r : Unlisted) → unlisted_by r ≡ 0 → ⊥
unlisted-positive (unlisted.Image k) e = positive k e
unlisted-positive unlisted.Room e = omega arith

abbrev no_list : Unlisted → Listed
no_list r = Err r

stands-refused : {n : rules.ListReply} (r : Unlisted) → n ≡ rules.list_refused (unlisted_by r) → Stands listing_of listed_of n (Err r)
stands-refused r e = record { numbers = sym e; case = sym (ap listed_of e ∙ simp (ne_eqb (unlisted_by r) 0 (unlisted-positive r)) (ap no_list (unlisted-known r))) }

stands_records : {n : rules.ListReply} (k : ℕ) → n ≡ rules.list_has k → Stands listing_of listed_of n (Ok k)
stands_records k e = record { numbers = sym e; case = sym (ap listed_of e) }

module _ (s o : List ℕ) where
  pub all-refused : (k : Refusal) → admission_of (refusal s) s ≡ Err k → ListedAll s o (Err (unlisted.Image k)) o
  all-refused k e =
      let n = (refused-is (refusal s) s k e).0 in
      let d = refused-number s k e in
      (stands-refused (unlisted.Image k) (list-refused s (length o) n ∙ ap rules.list_refused (sym d)), sym (buffer-refused s o n))

  pub all_short : refusal s ≡ 0 → length o < 4 * length (offences (tree s)) → ListedAll s o (Err unlisted.Room) o
  all_short e h = (stands-refused unlisted.Room (list-short s (length o) e h), sym (buffer-short s o e h))

  pub all_listed : {o' : List ℕ} {k : ℕ} → refusal s ≡ 0 → 4 * length (offences (tree s)) ≤ length o
      → Laid (entry_of (tree s)) o 0 (offences (tree s)) o' k → ListedAll s o (Ok k) o'
  all_listed {o'} {k} e h L =
      let c : length (offences (tree s)) ≡ k = (let n = L.count in omega arith) in
      (stands_records k (list-listed s (length o) e h ∙ ap rules.list_has c), L.words ∙ sym (buffer-listed s o e h))

  module _ (pass : Tree → List Rec) where
    pub part-refused : (k : Refusal) → admission_of (refusal s) s ≡ Err k → ListedPart pass s o (Err (unlisted.Image k)) o
    unfolding part_answer part_words
    part-refused k e =
        let n = (refused-is (refusal s) s k e).0 in
        let d = refused-number s k e in
        let f = ne_eqb (refusal s) 0 n in
        (stands-refused (unlisted.Image k) (rw f (ap rules.list_refused (sym d))), rw f)

    pub part-listed : {o' : List ℕ} {k : ℕ} → refusal s ≡ 0 → Laid (entry_of (tree s)) o 0 (pass (tree s)) o' k → ListedPart pass s o (Ok k) o'
    unfolding part_answer part_words
    part-listed {o'} {k} e L =
        let c : length (pass (tree s)) ≡ k = (let n = L.count in omega arith) in
        let f = eq-eqb (refusal s) 0 e in
        (stands_records k (rw f (ap rules.list_has c)), rw f L.words)
