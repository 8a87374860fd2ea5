-- The first entry of a signature, the names of earlier entries, and rule 23 from both.
use Prim.Native.Nat.{ℕ, ◌+◌, ◌-◌, ◌<◌, ◌≤◌}
use native.Mathlib.Omega.{arith}
use mathlib.Core.Path.{◌≡◌, refl, sym, ap, ◌∙◌, subst}
use native.Mathlib.Nat.{eq-or-lt_of_le}
use mathlib.Core.Bool.{Bool, true, false, true≢false}
use mathlib.Core.List.Memᴰ
use mathlib.Core.List.{List, [], ◌∷◌, Memᴰ}
use mathlib.Core.Logic.{⊎_elim}
use borrow.Author.Tests.{lt-ltb, le-ltb, eq-eqb, ne_eqb, eqb-true}
use lib.Dec.{eqb}
use lib.ListN.{replicate}
use Rattle.image.specs.Admit.{node_count}
use Rattle.image.proofs.Decide.{lt-or-ge}
use Rattle.rules.specs.Sweep.{some, first, also, either, has, same}
use Rattle.rules.specs.Tree.{Tree, tree, entry}
use Rattle.rules.specs.Vocabulary.{rec, only, first_below, named}
use Rattle.rules.specs.Resolve.{signature, first_signed, rule23}
use Rattle.rules.proofs.Reflect.{tells-some, tells-also, tells-has, tells-named, tells-same, first-is, first-from, first-at}
use Rattle.records.proofs.Sweep.{has_one, has-not, keep_one, keep-none}
use Rattle.nodes.specs.Shown.{View, In, tree_of}
use Rattle.nodes.specs.Marks.{Marks, marking}
use Rattle.nodes.proofs.Names.{same-is, marks-as, marks-none, either-false}
use Rattle.nodes.proofs.Parts.{formed}
use Rattle.nodes.proofs.Marking.{some-on}
use Rattle.signature.specs.Alike.{signed_as}
use Rattle.resolve_overloads.specs.Entries.{earlier, at23, noted_entry}
use Rattle.resolve_overloads.specs.declared.Kept.{Kept}
use Rattle.resolve_overloads.specs.Keys.{is_new, falls_to, key_of, slot, Chains, Sought, Likely}
use Rattle.signature.proofs.Reading.{below-count}
use Rattle.resolve_overloads.proofs.Turns.{root-holds}
use Rattle.resolve_overloads.proofs.Keys.{keys-same}
use Rattle.resolve_overloads.proofs.Chain.{also-both, chains-still, Seeking, seek-entry, seek-new}
use Rattle.signature.proofs.Sought.{Next, next-on, between}
use Rattle.signature.proofs.Pairs.{same_names}

-- node i is an entry of e's signature
abbrev pub is_signed : Tree → ℕ → ℕ → Bool
is_signed t e i = also (has (t.kind i) entry) (signed_as t e) i

pub signed-first : (t : Tree) (e : ℕ) → t.root ≡ 0 → first_signed t (signature t e) ≡ first (is_signed t e) 1 (t.end 0 - 1)
unfolding first_signed first_below
signed-first t e z = rw z refl

-- rule 23 at an entry p, from its first like
module _ (t : Tree) (p : ℕ) where
  pub at_other : (t.kind p ≡ 9 → ⊥) → at23 p t ≡ []
  at_other n = keep-none (rule23 t) p (has-not (t.kind p) 9 n)

  module _ (k : t.kind p ≡ 9) {g : ℕ} (d : g ≡ first_signed t (signature t p)) where
    pub at_none : p ≤ g → at23 p t ≡ []
    unfolding rule23 only
    at_none l = keep_one (rule23 t) p (has_one (t.kind p) 9 k) ∙ rw (sym d, le-ltb g p l) refl

    pub at_one : g < p → at23 p t ≡ rec 23 (p + 1) (g + 1) ∷ []
    unfolding rule23 only
    at_one l = keep_one (rule23 t) p (has_one (t.kind p) 9 k) ∙ rw (sym d, lt-ltb g p l) refl

module _ {part : List ℕ} {b p : ℕ} (W : View part b) (i : In part b p) (k : (tree_of W).kind p ≡ 9) where
  -- an entry before p that has its signature
  pub record Like (q : ℕ) : Type 0 where
    pub low : 0 < q
    pub there : q < node_count W.image
    pub is : (tree_of W).kind q ≡ 9
    pub text : signature (tree_of W) q ≡ signature (tree_of W) p

  pub first-like : first_signed (tree_of W) (signature (tree_of W) p) < p → Like (first_signed (tree_of W) (signature (tree_of W) p))
  first-like h =
      let q = first_signed (tree_of W) (signature (tree_of W) p) in
      let u = below-count W i in
      let e = signed-first (tree_of W) p refl in
      let d = (formed W).root_end in
      let a = subst (λ (x : ℕ). is_signed (tree_of W) p x ≡ true) (sym e) (first-is (is_signed (tree_of W) p) 1 ((tree_of W).end 0 - 1) (omega arith)) in
      let c = subst (λ (x : ℕ). 1 ≤ x) (sym e) (first-from (is_signed (tree_of W) p) 1 ((tree_of W).end 0 - 1)) in
      let m = (tells-also {Q = Memᴰ ((tree_of W).kind q) entry} {P = signature (tree_of W) q ≡ signature (tree_of W) p} (signed_as (tree_of W) p) q (tells-has ((tree_of W).kind q) entry) (tells-same (signature (tree_of W) q) (signature (tree_of W) p))).so a in
      record { low = c; there = omega arith; is = Memᴰ.eq_of_singleton m.0; text = m.1 }

  -- p itself has it
  first-upto : 0 < p → first_signed (tree_of W) (signature (tree_of W) p) ≤ p
  first-upto z =
      let h = root-holds W i in
      let e = signed-first (tree_of W) p refl in
      let f = first-at (is_signed (tree_of W) p) 1 ((tree_of W).end 0 - 1) p z (omega arith) (ap (λ (x : Bool). also x (signed_as (tree_of W) p) p) (has_one ((tree_of W).kind p) 9 k) ∙ same-is (signature (tree_of W) p)) in
      omega arith

  -- an entry of e's signature that is the first of its own is the first of e's
  pub first_found : (g : ℕ) → is_new W.image g ≡ true → signed_as (tree_of W) p g ≡ true → g ≡ first_signed (tree_of W) (signature (tree_of W) p)
  first_found g n f =
      sym (eqb-true (first_signed (tree_of W) (signature (tree_of W) g)) g (also-both (has ((tree_of W).kind g) entry) (λ e. eqb (first_signed (tree_of W) (signature (tree_of W) e)) e) g n).1)
      ∙ ap (first_signed (tree_of W)) ((tells-same (signature (tree_of W) g) (signature (tree_of W) p)).so f)

  pub is-new : p ≤ first_signed (tree_of W) (signature (tree_of W) p) → 0 < p → is_new W.image p ≡ true
  is-new l z =
      let h = first-upto z in
      ap (λ (x : Bool). also x (λ e. eqb (first_signed (tree_of W) (signature (tree_of W) e)) e) p) (has_one ((tree_of W).kind p) 9 k) ∙ eq-eqb (first_signed (tree_of W) (signature (tree_of W) p)) p (omega arith)

  pub not_new : first_signed (tree_of W) (signature (tree_of W) p) < p → is_new W.image p ≡ false
  not_new l =
      ap (λ (x : Bool). also x (λ e. eqb (first_signed (tree_of W) (signature (tree_of W) e)) e) p) (has_one ((tree_of W).kind p) 9 k) ∙ ne_eqb (first_signed (tree_of W) (signature (tree_of W) p)) p (λ q. omega arith)

  -- where no entry of its key has its signature, it is the first itself
  pub first_none : 0 < p → ((j : ℕ) → 0 < j → j < p → falls_to W.image (slot (key_of W.image p)) j ≡ true → signed_as (tree_of W) p j ≡ false) → p ≡ first_signed (tree_of W) (signature (tree_of W) p)
  first_none z f = let u = first-upto z in ⊎_elim (λ (h : first_signed (tree_of W) (signature (tree_of W) p) < p). absurd (met h (first-like h))) (λ (h : p ≤ first_signed (tree_of W) (signature (tree_of W) p)). omega arith) (lt-or-ge (first_signed (tree_of W) (signature (tree_of W) p)) p)
    where
      met : first_signed (tree_of W) (signature (tree_of W) p) < p → Like (first_signed (tree_of W) (signature (tree_of W) p)) → ⊥
      met h L =
          let q = first_signed (tree_of W) (signature (tree_of W) p) in
          let t : signed_as (tree_of W) p q ≡ true = (tells-same (signature (tree_of W) q) (signature (tree_of W) p)).back L.text in
          let a : is_new W.image q ≡ true = ap (λ (x : Bool). also x (λ e. eqb (first_signed (tree_of W) (signature (tree_of W) e)) e) q) (has_one ((tree_of W).kind q) 9 L.is) ∙ eq-eqb (first_signed (tree_of W) (signature (tree_of W) q)) q (ap (first_signed (tree_of W)) L.text) in
          let c : falls_to W.image (slot (key_of W.image p)) q ≡ true = ap (λ (x : Bool). also x (λ e. eqb (slot (key_of W.image e)) (slot (key_of W.image p))) q) a ∙ eq-eqb (slot (key_of W.image q)) (slot (key_of W.image p)) (ap slot (keys-same W.image W.shown.admitted q p L.there (below-count W i) L.is k t)) in
          true≢false (sym t ∙ f q L.low h c)

  -- an entry before p that has its signature has its name
  pub fresh-name : earlier (tree_of W) p ((tree_of W).text (p + 1)) ≡ false → p ≤ first_signed (tree_of W) (signature (tree_of W) p)
  unfolding earlier
  fresh-name f = ⊎_elim (λ (h : first_signed (tree_of W) (signature (tree_of W) p) < p). absurd (met h (first-like h))) (λ (h : p ≤ first_signed (tree_of W) (signature (tree_of W) p)). h) (lt-or-ge (first_signed (tree_of W) (signature (tree_of W) p)) p)
    where
      met : first_signed (tree_of W) (signature (tree_of W) p) < p → Like (first_signed (tree_of W) (signature (tree_of W) p)) → ⊥
      met h L =
          let q = first_signed (tree_of W) (signature (tree_of W) p) in
          let w = same_names W.image W.shown.admitted q p L.there (below-count W i) L.is k L.text in
          let z = L.low in
          true≢false
          (sym ((tells-some 1 (p - 1) (λ j. tells-also (named (tree_of W) ((tree_of W).text (p + 1))) j (tells-has ((tree_of W).kind j) entry) (tells-named (tree_of W) ((tree_of W).text (p + 1)) j))).back (q, z, omega arith, ((tells-has ((tree_of W).kind q) entry).so (has_one ((tree_of W).kind q) 9 L.is), w)))
          ∙ f)

  -- the names seen, with that of p
  module _ {r : List Bool} (M : Marks W.image (earlier (tree_of W) p) r) where
    abbrev More : List Bool → Type 0
    More l = Marks W.image (noted_entry (tree_of W) p) l

    pub seen-new : {l : List Bool} → Marks W.image (λ w. marking true (earlier (tree_of W) p w) (same ((tree_of W).text (p + 1)) w)) l → More l
    unfolding named marking
    seen-new N = marks-as (λ w. ap (λ (x : Bool). either (earlier (tree_of W) p w) (also x (named (tree_of W) w) p)) (sym (has_one ((tree_of W).kind p) 9 k))) N

pub seen_other : {part : List ℕ} {b : ℕ} (W : View part b) (p : ℕ) {r : List Bool} → ((tree_of W).kind p ≡ 9 → ⊥) → Marks W.image (earlier (tree_of W) p) r
    → Marks W.image (λ w. either (earlier (tree_of W) p w) (also (has ((tree_of W).kind p) entry) (named (tree_of W) w) p)) r
seen_other W p n M = marks-as (λ w. sym (ap (λ (x : Bool). either (earlier (tree_of W) p w) (also x (named (tree_of W) w) p)) (has-not ((tree_of W).kind p) 9 n) ∙ either-false (earlier (tree_of W) p w))) M

-- before the first node, and on to the next item
pub seen_none : {part : List ℕ} {b : ℕ} (W : View part b) → Marks W.image (earlier (tree_of W) 1) (replicate 1024 false)
unfolding earlier some
seen_none W = marks-as (λ w. refl) (marks-none W.image W.shown.admitted)

pub seen-on : {part : List ℕ} {b p q : ℕ} (W : View part b) {r : List Bool} → 1 ≤ p → Next W p q
    → Marks W.image (λ w. either (earlier (tree_of W) p w) (also (has ((tree_of W).kind p) entry) (named (tree_of W) w) p)) r → Marks W.image (earlier (tree_of W) q) r
unfolding earlier
seen-on {p = p} {q = q} W l B M = marks-as (λ w. sym (some-on (λ i. also (has ((tree_of W).kind i) entry) (named (tree_of W) w) i) 1 p q l (next-on W B) (λ j a c. ap (λ (x : Bool). also x (named (tree_of W) w) j) (between W B j a c)))) M

-- the entry e, sought among the entries before it
module _ {nodes : List ℕ} {e key : ℕ} {kept : Kept} (S : Sought nodes e key kept) where
  module _ {g : ℕ} (K : Seeking S.it.view.image e (slot key) g) where
    pub sought-none : g ≤ 0 → e ≡ first_signed (tree_of S.it.view) (signature (tree_of S.it.view) e)
    sought-none l = first_none S.it.view S.it.here S.it.is S.it.low (λ j z h t. K.past j (omega arith) h (subst (λ (x : ℕ). falls_to S.it.view.image (slot x) j ≡ true) (sym S.of_e) t))

    module _ (l : 0 < g) (h : g < e) where
      pub sought-in : In nodes 0 g
      sought-in = let i = S.it.here in let x = i.1 in let y = i.2 in (omega arith, omega arith, omega arith)

      abbrev pub likely : Likely nodes g e key kept
      likely = record {
        pair = record { view = S.it.view; there_g = sought-in; there_e = S.it.here; is_g = seek-entry S.chains K l h; is_e = S.it.is };
        of_g = S.chains.key g l h (seek-new S.chains K l h);
        of_e = S.of_e;
      }

      pub sought-found : signed_as (tree_of S.it.view) e g ≡ true → g ≡ first_signed (tree_of S.it.view) (signature (tree_of S.it.view) e)
      sought-found f = first_found S.it.view S.it.here S.it.is g (seek-new S.chains K l h) f

-- an item that is no Entry is not entered
pub other-not-new : (s : List ℕ) (p : ℕ) → ((tree s).kind p ≡ 9 → ⊥) → is_new s p ≡ false
other-not-new s p n = ap (λ (x : Bool). also x (λ e. eqb (first_signed (tree s) (signature (tree s) e)) e) p) (has-not ((tree s).kind p) 9 n)

-- nothing is due before the next item
pub nothing-on : {part : List ℕ} {b : ℕ} (W : View part b) {p q : ℕ} → Next W p q → ((j : ℕ) → 1 ≤ j → j < p → at23 j (tree_of W) ≡ []) → at23 p (tree_of W) ≡ [] → (j : ℕ) → 1 ≤ j → j < q → at23 j (tree_of W) ≡ []
nothing-on W {p} {q} B f g j a c =
    ⊎_elim
    (λ (h : j < p). f j a h)
    (λ (h : p ≤ j). ⊎_elim (λ (e : p ≡ j). subst (λ (x : ℕ). at23 x (tree_of W) ≡ []) e g) (λ (l : p < j). keep-none (rule23 (tree_of W)) j (between W B j l c)) (eq-or-lt_of_le h))
    (lt-or-ge j p)

-- on to the next item
pub chains-on : {part : List ℕ} {b : ℕ} (W : View part b) {p q : ℕ} {heads links keys : List ℕ} → Next W p q → Chains W.image (p + 1) heads links keys → Chains W.image q heads links keys
chains-on W B C = let l = next-on W B in chains-still W.image C (omega arith) (λ j a c. ap (λ (x : Bool). also x (λ e. eqb (first_signed (tree_of W) (signature (tree_of W) e)) e) j) (between W B j (omega arith) c))
