-- What an admitted image gives of all that stands below a node: only kinds that the table of document 01 lets come to stand there; and so where an Entry's statements stand.
use Prim.Native.Nat.{ℕ, zero, suc, ◌+◌, ◌%◌, ◌<◌, ◌≤◌}
use mathlib.Core.Path.{◌≡◌, refl, ap, ◌∙◌, sym, subst}
use mathlib.Core.Bool.{Bool, true, false, true≢false}
use mathlib.Core.List.{List, [], ◌∷◌}
use mathlib.Core.Logic.{◌⊎◌, inl, inr, ⊎_elim}
use native.Mathlib.Nat.{eq-or-lt_of_le}
use native.Mathlib.Omega.{arith}
use borrow.Author.Tests.{le-leb, lt-leb}
use lib.Dec.{leb}
use Rattle.image.specs.Pick.{pick, both, every}
use Rattle.image.specs.Node.{kind_of, end_of}
use Rattle.image.specs.Digits.{family_of, part_at, takes}
use Rattle.image.specs.Forms.{FormsTree}
use Rattle.image.proofs.Decide.{lt-or-ge}
use Rattle.image.proofs.Every.{every-at}
use Rattle.image.proofs.Digits.{family-past}
use Rattle.image.proofs.Shape.{Child}
use Rattle.image.proofs.Row.{Run, done, next, run-within, Either3, Rest, parts_from, parts_of, shape, no_kind, Kid, Kids, none, some, kids-within}
use Rattle.image.proofs.Children.{Entry}

-- the child in whose range node j stands
pub record Holder (s : List ℕ) (at e j : ℕ) (P : ℕ → Type 0) : Type 0 where
  pub child : ℕ
  pub from : at ≤ child
  pub upto : child ≤ j
  pub within : j < end_of s child
  pub ends : end_of s child ≤ e
  pub is : P child

-- it may be sought behind the first child
further : {s : List ℕ} {at mid e j : ℕ} {P Q : ℕ → Type 0} → at ≤ mid → ((c : ℕ) → P c → Q c) → Holder s mid e j P → Holder s at e j Q
further l f h = let a = h.from in record { child = h.child; from = omega arith; upto = h.upto; within = h.within; ends = h.ends; is = f h.child h.is }

shorter : {s : List ℕ} {at mid e j : ℕ} {P Q : ℕ → Type 0} → mid ≤ e → ((c : ℕ) → P c → Q c) → Holder s at mid j P → Holder s at e j Q
shorter l f h = let a = h.ends in record { child = h.child; from = h.from; upto = h.upto; within = h.within; ends = omega arith; is = f h.child h.is }

here : {s : List ℕ} {at e j : ℕ} {P : ℕ → Type 0} → at ≤ j → j < end_of s at → end_of s at ≤ e → P at → Holder s at e j P
here {s} {at} l h g p = record { child = at; from = omega arith; upto = l; within = h; ends = g; is = p }

-- every node of a list of children stands in one of them
pub kids-hold : {s : List ℕ} {low high mid at : ℕ} (j : ℕ) → Kids s low high mid at → at ≤ j → j < mid → Holder s at mid j (λ c. Kid s low high c mid)
kids-hold j (none e) l h = absurd (omega arith)
kids-hold {s} {low} {high} {mid} {at} j (some c r) l h =
    ⊎_elim (λ (i : j < end_of s at). here l i c.ends c) (λ (i : end_of s at ≤ j). further (let p = c.past in omega arith) (λ x k. k) (kids-hold j r i h)) (lt-or-ge j (end_of s at))

-- some part takes a kind of family f
any_takes : List ℕ → ℕ → Bool
any_takes [] f = false
any_takes (p ∷ ps) f = pick (takes p f) true (any_takes ps f)

abbrev Taken : List ℕ → List ℕ → ℕ → Type 0
Taken s ps c = any_takes ps (family_of (kind_of s c)) ≡ true

takes_first : (s : List ℕ) (p : ℕ) (ps : List ℕ) (c : ℕ) → takes p (family_of (kind_of s c)) ≡ true → Taken s (p ∷ ps) c
unfolding any_takes
takes_first s p ps c t = simp t

takes-later : (s : List ℕ) (p : ℕ) (ps : List ℕ) (c : ℕ) → Taken s ps c → Taken s (p ∷ ps) c
unfolding any_takes
takes-later s p ps c t = go (takes p (family_of (kind_of s c)))
  where
    go : (b : Bool) → pick b true (any_takes ps (family_of (kind_of s c))) ≡ true
    go true = refl
    go false = t

run_holds : (s : List ℕ) (p mid at j : ℕ) → Run s p mid at → at ≤ j → j < mid → Holder s at mid j (λ c. takes p (family_of (kind_of s c)) ≡ true)
run_holds s p mid at j (done e) l h = absurd (omega arith)
run_holds s p mid at j (next c r) l h =
    ⊎_elim (λ (i : j < end_of s at). here l i c.ends c.taken) (λ (i : end_of s at ≤ j). further (let q = c.past in omega arith) (λ x k. k) (run_holds s p mid (end_of s at) j r i h)) (lt-or-ge j (end_of s at))

rest-within : (s ps : List ℕ) (at e : ℕ) → Rest s ps at e → at ≤ e
unfolding Rest
rest-within s [] at e r = omega arith
rest-within s (p ∷ ps) at e r = go (p % 4) (λ m x. rest-within s ps m e x) r
  where
    go : (m : ℕ) → ((m : ℕ) → Rest s ps m e → m ≤ e) → Either3 m (Child s p at e × Rest s ps (end_of s at) e) ((Child s p at e × Rest s ps (end_of s at) e) ⊎ Rest s ps at e) ((mid : ℕ) × Run s p mid at × Rest s ps mid e) → at ≤ e
    go zero deeper f = let i = f.0.inside in omega arith
    go (suc zero) deeper f = ⊎_elim (λ x. let i = x.0.inside in omega arith) (λ x. deeper at x) f
    go (suc (suc m)) deeper f = let a = run-within f.1 in let b = deeper f.0 f.2 in omega arith

module _ (s : List ℕ) (e j : ℕ) (inside : j < e) where
  rest-holds : (ps : List ℕ) (at : ℕ) → Rest s ps at e → at ≤ j → Holder s at e j (Taken s ps)
  unfolding Rest
  rest-holds [] at r l = absurd (omega arith)
  rest-holds (p ∷ ps) at r l = go (p % 4) (λ m x y. rest-holds ps m x y) r
    where
      first : ((m : ℕ) → Rest s ps m e → m ≤ j → Holder s m e j (Taken s ps)) → Child s p at e × Rest s ps (end_of s at) e → Holder s at e j (Taken s (p ∷ ps))
      first deeper f =
          ⊎_elim (λ (i : j < end_of s at). here l i f.0.ends (takes_first s p ps at f.0.taken)) (λ (i : end_of s at ≤ j). further (let q = f.0.past in omega arith) (takes-later s p ps) (deeper (end_of s at) f.1 i)) (lt-or-ge j (end_of s at))

      go : (m : ℕ) → ((m : ℕ) → Rest s ps m e → m ≤ j → Holder s m e j (Taken s ps)) → Either3 m (Child s p at e × Rest s ps (end_of s at) e) ((Child s p at e × Rest s ps (end_of s at) e) ⊎ Rest s ps at e) ((mid : ℕ) × Run s p mid at × Rest s ps mid e) → Holder s at e j (Taken s (p ∷ ps))
      go zero deeper f = first deeper f
      go (suc zero) deeper f = ⊎_elim (λ x. first deeper x) (λ x. further (omega arith) (takes-later s p ps) (deeper at x l)) f
      go (suc (suc m)) deeper f =
          ⊎_elim
          (λ (i : j < f.0). shorter (rest-within s ps f.0 e f.2) (takes_first s p ps) (run_holds s p f.0 at j f.1 l i))
          (λ (i : f.0 ≤ j). further (run-within f.1) (takes-later s p ps) (deeper f.0 f.2 i))
          (lt-or-ge j f.0)

-- the rows of the kinds that pass A take only kinds that pass B
takes_only : (ℕ → Bool) → List ℕ → ℕ → Bool
takes_only B ps k = pick (any_takes ps (family_of k)) (B k) true

row_takes : (ℕ → Bool) → List ℕ → Bool
row_takes B ps = pick (any_takes ps 0) false (every (takes_only B ps) 46)

leads_at : (ℕ → Bool) → (ℕ → Bool) → ℕ → Bool
leads_at A B k = pick (A k) (row_takes B (parts_of k)) true

leads : (ℕ → Bool) → (ℕ → Bool) → Bool
leads A B = every (leads_at A B) 46

row-takes : (B : ℕ → Bool) (s ps : List ℕ) (c : ℕ) → row_takes B ps ≡ true → Taken s ps c → B (kind_of s c) ≡ true
unfolding row_takes takes_only
row-takes B s ps c t k = go (any_takes ps 0) refl t
  where
    go : (b : Bool) → any_takes ps 0 ≡ b → pick b false (every (takes_only B ps) 46) ≡ true → B (kind_of s c) ≡ true
    go true x u = absurd (true≢false (sym u))
    go false x u =
        ⊎_elim
        (λ (l : kind_of s c < 46). rw k at (every-at (takes_only B ps) 46 (kind_of s c) u l))
        (λ (h : 46 ≤ kind_of s c). absurd (true≢false (sym k ∙ ap (any_takes ps) (family-past (kind_of s c) h) ∙ x)))
        (lt-or-ge (kind_of s c) 46)

module _ (s : List ℕ) (n : ℕ) (T : FormsTree s n) (B : ℕ → Bool) (closed : leads B B ≡ true) where
  below-from : (A : ℕ → Bool) → leads A B ≡ true → (k i : ℕ) → n ≤ i + k → i < n → A (kind_of s i) ≡ true → (j : ℕ) → i < j → j < end_of s i → B (kind_of s j) ≡ true
  unfolding leads leads_at
  below-from A lead zero i b h is j l g = absurd (omega arith)
  below-from A lead (suc k) i b h is j l g =
      let N = T.node i h in
      let v = N.inside in
      let small : kind_of s i < 46 = ⊎_elim (λ (q : kind_of s i < 46). q) (λ (q : 46 ≤ kind_of s i). absurd (no_kind s i N.children q)) (lt-or-ge (kind_of s i) 46) in
      let r : row_takes B (parts_of (kind_of s i)) ≡ true = rw is at (every-at (leads_at A B) 46 (kind_of s i) lead small) in
      let H = rest-holds s (end_of s i) j g (parts_of (kind_of s i)) (i + 1) (shape s i N.children) (omega arith) in
      let one = row-takes B s (parts_of (kind_of s i)) H.child r H.is in
      let from = H.from in
      let upto = H.upto in
      let within = H.within in
      ⊎_elim
      (λ (q : H.child ≡ j). subst (λ (m : ℕ). B (kind_of s m) ≡ true) q one)
      (λ (q : H.child < j). below-from B closed k H.child (omega arith) (omega arith) one j q within)
      (eq-or-lt_of_le upto)

  -- below a node of a kind that passes A there are only kinds that pass B
  only_below : (A : ℕ → Bool) → leads A B ≡ true → (i : ℕ) → i < n → A (kind_of s i) ≡ true → (j : ℕ) → i < j → j < end_of s i → B (kind_of s j) ≡ true
  only_below A lead i h is j l g = below-from A lead n i (omega arith) h is j l g

-- Names and expressions: what stands below a statement. With parameters, types and clauses: what stands in an Entry in front of its statements.
abbrev pub inner : ℕ → Bool
inner k = pick (leb 32 k) (leb k 45) (both (leb 23 k) (leb k 23))

abbrev pub aside : ℕ → Bool
aside k = pick (leb 32 k) (leb k 45) (both (leb 10 k) (leb k 23))

abbrev pub is_statement : ℕ → Bool
is_statement k = both (leb 24 k) (leb k 28)

among : (low high k : ℕ) → low ≤ k → k ≤ high → both (leb low k) (leb k high) ≡ true
among low high k l h = simp (le-leb low k l, le-leb k high h)

inner-closed : leads inner inner ≡ true
unfolding leads leads_at row_takes takes_only any_takes parts_of parts_from part_at family_of every
inner-closed = refl

aside-closed : leads aside aside ≡ true
unfolding leads leads_at row_takes takes_only any_takes parts_of parts_from part_at family_of every
aside-closed = refl

statement-leads : leads is_statement inner ≡ true
unfolding leads leads_at row_takes takes_only any_takes parts_of parts_from part_at family_of every
statement-leads = refl

module _ (s : List ℕ) (n : ℕ) (T : FormsTree s n) where
  -- below a statement there are only Names and expressions
  pub statement-below : (i : ℕ) → i < n → is_statement (kind_of s i) ≡ true → (j : ℕ) → i < j → j < end_of s i → inner (kind_of s j) ≡ true
  statement-below i h is j l g = only_below s n T inner inner-closed is_statement statement-leads i h is j l g

  -- below a parameter, a clause, a type or an expression there is no statement
  pub aside-below : (i : ℕ) → i < n → aside (kind_of s i) ≡ true → (j : ℕ) → i < j → j < end_of s i → aside (kind_of s j) ≡ true
  aside-below i h is j l g = only_below s n T aside aside-closed aside aside-closed i h is j l g

  -- every node of a list of children whose kinds are aside is
  kids-aside : (low high mid at : ℕ) → 10 ≤ low → high ≤ 23 → mid ≤ n → Kids s low high mid at → (j : ℕ) → at ≤ j → j < mid → aside (kind_of s j) ≡ true
  kids-aside low high mid at l h m ks j a b =
      let H = kids-hold j ks a b in
      let K = H.is in
      let x = K.from in
      let y = K.to in
      let z : kind_of s H.child < 32 = omega arith in
      let is : aside (kind_of s H.child) ≡ true = simp (lt-leb 32 (kind_of s H.child) z) (among 10 23 (kind_of s H.child) (omega arith) (omega arith)) in
      let u = H.upto in
      let w = H.within in
      ⊎_elim (λ (q : H.child ≡ j). subst (λ (m : ℕ). aside (kind_of s m) ≡ true) q is) (λ (q : H.child < j). aside-below H.child (omega arith) is j q w) (eq-or-lt_of_le u)

  module _ (p : ℕ) (h : p < n) (E : Entry s p) where
    -- an Entry's statements start at its body: in front of it there is none
    pub before-body : (j : ℕ) → p < j → j < E.body → aside (kind_of s j) ≡ true
    before-body j l g =
        let i = (T.node p h).inside in
        let b = kids-within E.statements_are in
        let c = kids-within E.clauses_are in
        ⊎_elim
        (λ (x : j < p + 2). let q : p + 1 ≡ j = omega arith in let k = E.name_node in let f = k.from in let t = k.to in let z : kind_of s (p + 1) < 32 = omega arith in subst (λ (m : ℕ). aside (kind_of s m) ≡ true) q (simp (lt-leb 32 (kind_of s (p + 1)) z) (among 10 23 (kind_of s (p + 1)) (omega arith) t)))
        (λ (x : p + 2 ≤ j).
        ⊎_elim
        (λ (y : j < E.clauses). kids-aside 10 10 E.clauses (p + 2) (omega arith) (omega arith) (omega arith) E.params_are j x y)
        (λ (y : E.clauses ≤ j). kids-aside 14 21 E.body E.clauses (omega arith) (omega arith) (omega arith) E.clauses_are j y g)
        (lt-or-ge j E.clauses))
        (lt-or-ge j (p + 2))

    -- and from it on there are only statements and what is below them
    pub from-body : (j : ℕ) → E.body ≤ j → j < end_of s p → (is_statement (kind_of s j) ≡ true) ⊎ (inner (kind_of s j) ≡ true)
    from-body j l g =
        let i = (T.node p h).inside in
        let H = kids-hold j E.statements_are l g in
        let K = H.is in
        let is : is_statement (kind_of s H.child) ≡ true = among 24 28 (kind_of s H.child) K.from K.to in
        let u = H.upto in
        let w = H.within in
        ⊎_elim (λ (q : H.child ≡ j). inl (subst (λ (m : ℕ). is_statement (kind_of s m) ≡ true) q is)) (λ (q : H.child < j). inr (statement-below H.child (omega arith) is j q w)) (eq-or-lt_of_le u)
