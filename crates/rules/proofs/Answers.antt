-- The answers of specs/Answers, case by case: refused, admitted; and what a list, or a part of one, leaves in its buffer.
use Prim.Native.Nat.{ℕ, zero, suc, ◌+◌, ◌*◌, ◌<◌, ◌≤◌}
use mathlib.Core.Path.{◌≡◌, refl, ap, ap₂, ◌∙◌, sym, subst}
use mathlib.Core.Bool.{Bool, true, false}
use mathlib.Core.List.Memᴰ
use mathlib.Core.List.{List, [], ◌∷◌, ◌++◌, Memᴰ}
use mathlib.Core.Logic.{◌⊎◌, inl, inr, ⊎_elim}
use native.Mathlib.Omega.{arith}
use borrow.Author.Tests.{ltb-true, ltb-false, lt-ltb, le-ltb, eqb-true, eqb-false, eq-eqb, ne_eqb}
use lib.Dec.{ltb, eqb}
use lib.ListN.{length, get_or, set, take, drop, length-set}
use lib.Seq.{sets, length-sets, get_or-set_same, get_or-set_other}
use Rattle.image.specs.Pick.{pick}
use Rattle.image.specs.Text.{names_ok}
use Rattle.image.specs.Tree.{tree_ok, depth_ok, used_ok}
use Rattle.image.specs.Admit.{node_count, name_count, nodes_of, names_of, text_part, length_ok, version_ok, counts_ok, layout_ok, header_refusal, body_refusal, refusal}
use Rattle.rules.specs.Tree.{Tree, tree}
use Rattle.rules.specs.Vocabulary.{Rec}
use Rattle.rules.specs.Resolve.{resolve}
use Rattle.rules.specs.Access.{access}
use Rattle.rules.specs.Linear.{linear}
use Rattle.rules.specs.All.{offences, entry_of}
use Rattle.rules.specs.Passes.{PassRules, None, FirstOffence}
use Rattle.rules.specs.Answers.{IsRefused, IsAdmitted, image_refused, accepted, refused_at, verdict, pass_answer, NameReply, reply_refused, replied, ask, words, laid, ListReply, list_refused, list_has, list_answer, list_buffer, part_count, part_buffer, part_answer, part_words, on_rest, InTurn}
use Rattle.rules.proofs.Passes.{Judges}

-- an image is admitted or refused
pub decide : (s : List ℕ) → IsAdmitted s ⊎ IsRefused s
decide s = go (eqb (refusal s) 0) refl
  where
    go : (b : Bool) → eqb (refusal s) 0 ≡ b → IsAdmitted s ⊎ IsRefused s
    go true e = inl (eqb-true (refusal s) 0 e)
    go false e = inr (eqb-false (refusal s) 0 e)

-- the numbers of refusal end at 8
pick-most : (b : Bool) (x y : ℕ) → x ≤ 8 → y ≤ 8 → pick b x y ≤ 8
pick-most true x y h g = h
pick-most false x y h g = g

four-most : (a b c d : Bool) (i j k l : ℕ) → i ≤ 8 → j ≤ 8 → k ≤ 8 → l ≤ 8 → pick a (pick b (pick c (pick d 0 i) j) k) l ≤ 8
four-most a b c d i j k l e f g h =
    pick-most a _ l (pick-most b _ k (pick-most c _ j (pick-most d 0 i (omega arith) e) f) g) h

pub refusal-most : (s : List ℕ) → refusal s ≤ 8
unfolding refusal header_refusal body_refusal
refusal-most s =
    pick-most (eqb (header_refusal s) 0) _ _
    (four-most (names_ok (names_of s) (text_part s) (name_count s)) (tree_ok (nodes_of s) (names_of s) (text_part s) (node_count s) (name_count s)) (depth_ok (nodes_of s) (node_count s)) (used_ok (nodes_of s) (node_count s) (name_count s)) 8 7 6 5 (omega arith) (omega arith) (omega arith) (omega arith))
    (four-most (length_ok s) (version_ok s) (counts_ok s) (layout_ok s (node_count s) (name_count s)) 4 3 2 1 (omega arith) (omega arith) (omega arith) (omega arith))

-- A pass

pub pass-refused : (pass : Tree → List Rec) (s : List ℕ) → IsRefused s → pass_answer pass s ≡ image_refused (refusal s)
unfolding pass_answer
pass-refused pass s n = ap (λ (b : Bool). pick b (verdict s (pass (tree s))) (image_refused (refusal s))) (ne_eqb (refusal s) 0 n)

pub pass-admitted : (pass : Tree → List Rec) (s : List ℕ) → IsAdmitted s → pass_answer pass s ≡ verdict s (pass (tree s))
unfolding pass_answer
pass-admitted pass s e = ap (λ (b : Bool). pick b (verdict s (pass (tree s))) (image_refused (refusal s))) (eq-eqb (refusal s) 0 e)

module _ (p : PassRules) (s : List ℕ) (j : IsAdmitted s → Judges (tree s) p) where
  -- a pass has no offence, or a first one
  pub decided : IsAdmitted s → None (tree s) p ⊎ ((r : Rec) × FirstOffence (tree s) p r)
  decided e = go (p.part (tree s)) (j e).accepts.0 (j e).has_first
    where
      go : (l : List Rec) → (l ≡ [] → None (tree s) p) → ((l ≡ [] → ⊥) → (r : Rec) × FirstOffence (tree s) p r) → None (tree s) p ⊎ ((r : Rec) × FirstOffence (tree s) p r)
      go [] n f = inl (n refl)
      go (r ∷ l) n f = inr (f (λ z. absurd (Memᴰ.not-nil (subst (λ (m : List Rec). Memᴰ r m) z (Memᴰ.head refl)))))

  pub pass-accepts : IsAdmitted s → None (tree s) p → pass_answer p.part s ≡ accepted
  pass-accepts e n = pass-admitted p.part s e ∙ ap (verdict s) ((j e).accepts.1 n)

  pub pass-refuses : IsAdmitted s → (r : Rec) → FirstOffence (tree s) p r → pass_answer p.part s ≡ refused_at s r.code r.place
  pass-refuses e r f = pass-admitted p.part s e ∙ ap (verdict s) ((j e).refuses r f).1

-- A question

module _ (q : Tree → List ℕ → Bool) (s w : List ℕ) where
  abbrev answers : Bool → NameReply
  answers b = pick b (replied (q (tree s) w)) (reply_refused (refusal s))

  pub ask-refused : IsRefused s → ask q s w ≡ reply_refused (refusal s)
  unfolding ask
  ask-refused n = ap answers (ne_eqb (refusal s) 0 n)

  pub ask-admitted : IsAdmitted s → ask q s w ≡ replied (q (tree s) w)
  unfolding ask
  ask-admitted e = ap answers (eq-eqb (refusal s) 0 e)

-- Words and buffers

pub length-words : (e : ℕ → ℕ) (l : List Rec) → length (words e l) ≡ 4 * length l
length-words e [] = refl
length-words e (r ∷ l) = let h : length (words e l) ≡ 4 * length l = length-words e l in omega arith

pub words_append : (e : ℕ → ℕ) (a b : List Rec) → words e (a ++ b) ≡ words e a ++ words e b
words_append e [] b = refl
words_append e (r ∷ a) b = ap (λ (l : List ℕ). r.code ∷ r.place ∷ r.related ∷ e r.place ∷ l) (words_append e a b)

-- where two give the places of the records the same entries, the words are the same
pub words_same : (d e : ℕ → ℕ) (l : List Rec) → ((r : Rec) → Memᴰ r l → d r.place ≡ e r.place) → words d l ≡ words e l
words_same d e [] h = refl
words_same d e (r ∷ l) h =
    ap₂ (λ (n : ℕ) (m : List ℕ). r.code ∷ r.place ∷ r.related ∷ n ∷ m) (h r (Memᴰ.head refl)) (words_same d e l (λ q m. h q (Memᴰ.tail m)))

pub sets-append : (o : List ℕ) (i : ℕ) (v w : List ℕ) → sets o i (v ++ w) ≡ sets (sets o i v) (i + length v) w
sets-append o i [] w = ap (λ (n : ℕ). sets o n w) (omega arith)
sets-append o i (x ∷ v) w = sets-append (set o i x) (suc i) v w ∙ ap (λ (n : ℕ). sets (sets (set o i x) (suc i) v) n w) (omega arith)

pub laid-append : (e : ℕ → ℕ) (o : List ℕ) (k : ℕ) (a b : List Rec) → laid e o k (a ++ b) ≡ laid e (laid e o k a) (k + length a) b
laid-append e o k a b =
    ap (sets o (4 * k)) (words_append e a b)
    ∙ sets-append o (4 * k) (words e a) (words e b)
    ∙ ap (λ (n : ℕ). sets (sets o (4 * k) (words e a)) n (words e b)) (omega (arith, length-words e a))

-- a store past the start of a buffer is a store into the rest of it
sets-nil : (i : ℕ) (v : List ℕ) → sets [] i v ≡ []
sets-nil i [] = refl
sets-nil i (x ∷ v) = sets-nil (suc i) v

sets-cons : (y : ℕ) (o : List ℕ) (i : ℕ) (v : List ℕ) → sets (y ∷ o) (suc i) v ≡ y ∷ sets o i v
sets-cons y o i [] = refl
sets-cons y o i (x ∷ v) = sets-cons y (set o i x) (suc i) v

sets-rest : (o : List ℕ) (i : ℕ) (v : List ℕ) → sets o i v ≡ take i o ++ sets (drop i o) 0 v
sets-rest o zero v = refl
sets-rest [] (suc i) v = sets-nil (suc i) v ∙ sym (sets-nil 0 v)
sets-rest (y ∷ o) (suc i) v = sets-cons y o i v ∙ ap (λ (l : List ℕ). y ∷ l) (sets-rest o i v)

pub in_turn : InTurn
unfolding offences
in_turn s o =
    laid-append w o 0 (resolve t) (access t ++ linear t)
    ∙ laid-append w (laid w o 0 (resolve t)) (0 + a) (access t) (linear t)
    ∙ ap (λ (n : ℕ). laid w (laid w (laid w o 0 (resolve t)) n (access t)) (n + b) (linear t)) (omega arith)
    ∙ sets-rest (laid w (laid w o 0 (resolve t)) a (access t)) (4 * (a + b)) (words w (linear t))
    ∙ ap (λ (l : List ℕ). on_rest (a + b) (part_buffer linear s) l) (sets-rest (laid w o 0 (resolve t)) (4 * a) (words w (access t)))
  where
    t : Tree
    t = tree s

    w : ℕ → ℕ
    w = entry_of t

    a : ℕ
    a = part_count resolve s

    b : ℕ
    b = part_count access s

-- a part's words: those that fit are written from the buffer's start, words past them keep their values, and so does the length
sets-before : (o : List ℕ) (i : ℕ) (v : List ℕ) (j : ℕ) → j < i → get_or (sets o i v) j 0 ≡ get_or o j 0
sets-before o i [] j l = refl
sets-before o i (x ∷ v) j l = sets-before (set o i x) (suc i) v j (omega arith) ∙ get_or-set_other o i j x 0 (λ e. omega arith)

sets-past : (o : List ℕ) (i : ℕ) (v : List ℕ) (j : ℕ) → i + length v ≤ j → get_or (sets o i v) j 0 ≡ get_or o j 0
sets-past o i [] j l = refl
sets-past o i (x ∷ v) j l = sets-past (set o i x) (suc i) v j (omega arith) ∙ get_or-set_other o i j x 0 (λ e. omega arith)

sets-at : (o : List ℕ) (i : ℕ) (v : List ℕ) (k : ℕ) → k < length v → i + k < length o → get_or (sets o i v) (i + k) 0 ≡ get_or v k 0
sets-at o i [] k l h = absurd (omega arith)
sets-at o i (x ∷ v) zero l h =
    let z : i + 0 ≡ i = omega arith in
    ap (λ (n : ℕ). get_or (sets (set o i x) (suc i) v) n 0) z ∙ sets-before (set o i x) (suc i) v i (omega arith) ∙ get_or-set_same o i x 0 (omega arith)
sets-at o i (x ∷ v) (suc k) l h =
    let z : i + suc k ≡ suc i + k = omega arith in
    ap (λ (n : ℕ). get_or (sets (set o i x) (suc i) v) n 0) z ∙ sets-at (set o i x) (suc i) v k (omega arith) (let e = length-set o i x in omega arith)

module _ (e : ℕ → ℕ) (o : List ℕ) (l : List Rec) where
  pub laid-long : length (laid e o 0 l) ≡ length o
  laid-long = length-sets o 0 (words e l)

  pub laid-written : (i : ℕ) → i < 4 * length l → i < length o → get_or (laid e o 0 l) i 0 ≡ get_or (words e l) i 0
  laid-written i h g =
      let z : i ≡ 0 + i = omega arith in
      ap (λ (n : ℕ). get_or (laid e o 0 l) n 0) z ∙ sets-at o 0 (words e l) i (let n = length-words e l in omega arith) (omega arith)

  pub laid_kept : (i : ℕ) → 4 * length l ≤ i → get_or (laid e o 0 l) i 0 ≡ get_or o i 0
  laid_kept i h = sets-past o 0 (words e l) i (let n = length-words e l in omega arith)

-- The list

module _ (s : List ℕ) where
  abbrev count : ℕ
  count = length (offences (tree s))

  -- the list in the buffer o
  abbrev whole : List ℕ → List ℕ
  whole o = laid (entry_of (tree s)) o 0 (offences (tree s))

  pub list-refused : (n : ℕ) → IsRefused s → list_answer s n ≡ list_refused (refusal s)
  unfolding list_answer
  list-refused n r = ap (λ (b : Bool). pick b (pick (ltb n (4 * count)) (list_refused 9) (list_has count)) (list_refused (refusal s))) (ne_eqb (refusal s) 0 r)

  admits : (n : ℕ) → IsAdmitted s → list_answer s n ≡ pick (ltb n (4 * count)) (list_refused 9) (list_has count)
  unfolding list_answer
  admits n e = ap (λ (b : Bool). pick b (pick (ltb n (4 * count)) (list_refused 9) (list_has count)) (list_refused (refusal s))) (eq-eqb (refusal s) 0 e)

  pub list-short : (n : ℕ) → IsAdmitted s → n < 4 * count → list_answer s n ≡ list_refused 9
  list-short n e l = admits n e ∙ ap (λ (b : Bool). pick b (list_refused 9) (list_has count)) (lt-ltb n (4 * count) l)

  pub list-listed : (n : ℕ) → IsAdmitted s → 4 * count ≤ n → list_answer s n ≡ list_has count
  list-listed n e l = admits n e ∙ ap (λ (b : Bool). pick b (list_refused 9) (list_has count)) (le-ltb n (4 * count) l)

  module _ (o : List ℕ) where
    buffer-is : (a : ListReply) → list_answer s (length o) ≡ a → list_buffer s o ≡ pick (eqb a.number 0) (whole o) o
    unfolding list_buffer
    buffer-is a q = ap (λ (b : ListReply). pick (eqb b.number 0) (whole o) o) q

    pub buffer-refused : IsRefused s → list_buffer s o ≡ o
    buffer-refused r = buffer-is _ (list-refused (length o) r) ∙ ap (λ (b : Bool). pick b (whole o) o) (ne_eqb (refusal s) 0 r)

    pub buffer-short : IsAdmitted s → length o < 4 * count → list_buffer s o ≡ o
    buffer-short e l = buffer-is _ (list-short (length o) e l)

    pub buffer-listed : IsAdmitted s → 4 * count ≤ length o → list_buffer s o ≡ whole o
    buffer-listed e l = buffer-is _ (list-listed (length o) e l)

    -- the length is unchanged, and words past the last record keep their values, whatever the answer
    buffer-cases : (P : List ℕ → Type 0) → P o → P (whole o) → P (list_buffer s o)
    unfolding list_buffer
    buffer-cases P x y = go (eqb (list_answer s (length o)).number 0)
      where
        go : (b : Bool) → P (pick b (whole o) o)
        go true = y
        go false = x

    pub buffer-long : length (list_buffer s o) ≡ length o
    buffer-long = buffer-cases (λ b. length b ≡ length o) refl (laid-long (entry_of (tree s)) o (offences (tree s)))

  -- words past the last record keep their values
  pub buffer-kept : (o : List ℕ) (i : ℕ) → 4 * (list_answer s (length o)).records ≤ i → get_or (list_buffer s o) i 0 ≡ get_or o i 0
  buffer-kept o i h = ⊎_elim admitted (λ r. ap (λ (b : List ℕ). get_or b i 0) (buffer-refused o r)) (decide s)
    where
      admitted : IsAdmitted s → get_or (list_buffer s o) i 0 ≡ get_or o i 0
      admitted e = go (ltb (length o) (4 * count)) refl
        where
          go : (b : Bool) → ltb (length o) (4 * count) ≡ b → get_or (list_buffer s o) i 0 ≡ get_or o i 0
          go true q = ap (λ (b : List ℕ). get_or b i 0) (buffer-short o e (ltb-true _ _ q))
          go false q =
              let l = ltb-false (length o) (4 * count) q in
              let k : (list_answer s (length o)).records ≡ count = ap (λ (a : ListReply). a.records) (list-listed (length o) e l) in
              ap (λ (b : List ℕ). get_or b i 0) (buffer-listed o e l) ∙ laid_kept (entry_of (tree s)) o (offences (tree s)) i (omega arith)

-- A pass's part of the list

module _ (pass : Tree → List Rec) (s : List ℕ) where
  pub part-refused : IsRefused s → part_answer pass s ≡ list_refused (refusal s)
  unfolding part_answer
  part-refused r = ap (λ (b : Bool). pick b (list_has (part_count pass s)) (list_refused (refusal s))) (ne_eqb (refusal s) 0 r)

  pub part-admitted : IsAdmitted s → part_answer pass s ≡ list_has (part_count pass s)
  unfolding part_answer
  part-admitted e = ap (λ (b : Bool). pick b (list_has (part_count pass s)) (list_refused (refusal s))) (eq-eqb (refusal s) 0 e)

  pub part-words-refused : (o : List ℕ) → IsRefused s → part_words pass s o ≡ o
  unfolding part_words
  part-words-refused o r = ap (λ (b : Bool). pick b (part_buffer pass s o) o) (ne_eqb (refusal s) 0 r)

  pub part-words-admitted : (o : List ℕ) → IsAdmitted s → part_words pass s o ≡ part_buffer pass s o
  unfolding part_words
  part-words-admitted o e = ap (λ (b : Bool). pick b (part_buffer pass s o) o) (eq-eqb (refusal s) 0 e)
