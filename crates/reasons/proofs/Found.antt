-- What is found for a place: the list of its row, and none where it has no row; and so the answer and the buffer.
use Prim.Native.Nat.{ℕ, ◌<◌, ◌≤◌}
use mathlib.Core.Path.{◌≡◌, refl, ap, sym, ◌∙◌}
use mathlib.Core.List.Memᴰ
use mathlib.Core.List.{List, [], ◌∷◌, Memᴰ}
use mathlib.Core.Logic.{◌⊎◌, inl, inr}
use native.Mathlib.Omega.{arith}
use borrow.Author.Tests.{eq-eqb, ne_eqb, lt-ltb, le-ltb}
use lib.ListN.{length}
use lib.Seq.{sets}
use Rattle.image.specs.Admit.{refusal}
use Rattle.rules.specs.Tree.{Tree, tree, entry, param_let}
use Rattle.rules.specs.Linear.{place_of}
use Rattle.rules.proofs.Reflect.{Finds, finds-as, finds-nothing, finds-below, finds-keep, tells-eqb}
use Rattle.rules.proofs.Linear.{tells-is_row, row-so, row-kind, row_below}
use Rattle.reasons.specs.Reasons.{TrackedAt}
use Rattle.reasons.specs.Compute.{reasons, reasons_at}
use Rattle.reasons.specs.Answer.{why_refused, why_told, reply_by, words_of, why_answer, why_buffer}
use Rattle.reasons.specs.Demands.{NoLot, TellsNothing}
use Rattle.reasons.proofs.Rows.{one_row}

finds-one : (w : List ℕ) → Finds (w ∷ []) (λ v. v ≡ w)
finds-one w = record { so = λ v m. Memᴰ.eq_of_singleton m; back = λ v e. Memᴰ.head e }

-- the lists of the rows at a place
finds-at : (t : Tree) (p : ℕ) → Finds (reasons_at t p) (λ w. (e : ℕ) × (x : ℕ) × TrackedAt t p e x × (w ≡ reasons t e x))
unfolding reasons_at
finds-at t p =
    finds-as
    (λ w f. let g = f.2 in (f.0, g.0, (f.1, row-so t f.0 g.0 g.1 g.2.0, sym g.2.1.0), g.2.1.1))
    (λ w f. let r = f.2 in (f.0, r.0, (f.1, row_below t f.0 f.1 r.1, (row-kind t f.0 f.1 r.1, (sym r.2, f.3)))))
    (finds-below t entry t.root (λ e.
    finds-below t param_let e (λ x. finds-keep _ x (tells-is_row t x) (finds-keep _ x (tells-eqb (place_of t x) p) (finds-one (reasons t e x))))))

pub found_none : (t : Tree) (p : ℕ) → NoLot t p → reasons_at t p ≡ []
found_none t p n = finds-nothing (finds-at t p) (λ w f. n f.0 f.1 f.2)

-- a list whose members are all one, and which has one
headed : {A : Type 0} (l : List A) (a : A) → Memᴰ a l → ((b : A) → Memᴰ b l → b ≡ a) → (m : List A) × (l ≡ a ∷ m)
headed [] a i h = absurd (Memᴰ.not-nil i)
headed {A} (b ∷ m) a i h = (m, ap (λ (c : A). c ∷ m) (h b (Memᴰ.head refl)))

pub found-one : (s : List ℕ) (p e x : ℕ) → refusal s ≡ 0 → TrackedAt (tree s) p e x → (m : List (List ℕ)) × (reasons_at (tree s) p ≡ reasons (tree s) e x ∷ m)
found-one s p e x z r =
    headed (reasons_at (tree s) p) (reasons (tree s) e x) ((finds-at (tree s) p).back _ (e, x, r, refl))
    (λ w i.
    let f = (finds-at (tree s) p).so w i in
    let d = one_row s p f.0 e f.1 x z f.2 r in
    f.3 ∙ rw (d.0, d.1))

-- a place has a row or none
pub row-or-none : (t : Tree) (p : ℕ) → NoLot t p ⊎ ((e : ℕ) × (x : ℕ) × TrackedAt t p e x)
row-or-none t p = go (reasons_at t p) (finds-at t p)
  where
    go : (l : List (List ℕ)) → Finds l (λ w. (e : ℕ) × (x : ℕ) × TrackedAt t p e x × (w ≡ reasons t e x)) → NoLot t p ⊎ ((e : ℕ) × (x : ℕ) × TrackedAt t p e x)
    go [] f = inl (λ e x r. Memᴰ.not-nil (f.back (reasons t e x) (e, x, r, refl)))
    go (w ∷ l) f = let g = f.so w (Memᴰ.head refl) in inr (g.0, g.1, g.2)

-- Answers

module _ (s o : List ℕ) (p : ℕ) where
  unwritten : (r : ℕ) → (r ≡ 0 → ⊥) → why_answer s p (length o) ≡ why_refused r → TellsNothing s p o r
  unfolding why_buffer
  unwritten r n e = (e, rw e (rw (ne_eqb r 0 n) refl))

  pub image-refused : (refusal s ≡ 0 → ⊥) → TellsNothing s p o (refusal s)
  unfolding why_answer
  image-refused n = unwritten (refusal s) n (simp (ne_eqb (refusal s) 0 n))

  module _ (z : refusal s ≡ 0) where
    by-found : {l : List (List ℕ)} → reasons_at (tree s) p ≡ l → why_answer s p (length o) ≡ reply_by l (length o)
    unfolding why_answer
    by-found e = simp (eq-eqb (refusal s) 0 z) (ap (λ (m : List (List ℕ)). reply_by m (length o)) e)

    pub no_lot : NoLot (tree s) p → TellsNothing s p o 13
    no_lot n = unwritten 13 (λ e. omega arith) (by-found (found_none (tree s) p n))

    module _ (e x : ℕ) (r : TrackedAt (tree s) p e x) where
      pub too_short : length o < length (reasons (tree s) e x) → TellsNothing s p o 10
      too_short l = unwritten 10 (λ e. omega arith) (by-found (found-one s p e x z r).1 ∙ simp (lt-ltb (length o) (length (reasons (tree s) e x)) l))

      pub all_told : length (reasons (tree s) e x) ≤ length o → (why_answer s p (length o) ≡ why_told (length (reasons (tree s) e x))) × (why_buffer s p o ≡ sets o 0 (reasons (tree s) e x))
      unfolding why_buffer
      all_told l =
          let f = found-one s p e x z r in
          let a : why_answer s p (length o) ≡ why_told (length (reasons (tree s) e x)) = by-found f.1 ∙ simp (le-ltb (length o) (length (reasons (tree s) e x)) l) in
          (a, rw a (ap (λ (m : List (List ℕ)). sets o 0 (words_of m)) f.1))
