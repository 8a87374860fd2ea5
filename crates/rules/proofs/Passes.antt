-- Demand 3, pass by pass: each pass's records are those of the full list that have its codes; it accepts exactly when there is none, and else refuses with the first.
use Prim.Native.Nat.{ℕ, ◌≤◌}
use mathlib.Core.Path.{◌≡◌, refl, ap, ap₂, ◌∙◌, sym, subst}
use mathlib.Core.Bool.{Bool, true, false}
use mathlib.Core.List.Memᴰ
use mathlib.Core.List.{List, [], ◌∷◌, ◌++◌, append-nil, Memᴰ}
use mathlib.Core.Logic.{inl, inr, ⊎_elim, ◌↔◌}
use native.Mathlib.Omega.{arith}
use borrow.Author.Tests.{leb-true, le-leb}
use lib.Dec.{leb}
use Rattle.image.specs.Pick.{pick, both}
use Rattle.image.specs.Admit.{refusal}
use Rattle.rules.specs.Tree.{Tree, tree}
use Rattle.rules.specs.Vocabulary.{Rec}
use Rattle.rules.specs.Resolve.{resolve}
use Rattle.rules.specs.Access.{access}
use Rattle.rules.specs.Linear.{linear}
use Rattle.rules.specs.All.{Offence, offences, Ordered, key}
use Rattle.rules.specs.Passes.{PassRules, resolving, accessing, linearity, Of, of_pass, None, FirstOffence}
use Rattle.rules.proofs.Reflect.{Tells, Finds, tells_both, finds-as}
use Rattle.rules.proofs.Resolve.{Found24, Found35, finds-resolve, unknown-so}
use Rattle.rules.proofs.Access.{finds-access}
use Rattle.rules.proofs.Linear.{finds-linear}
use Rattle.rules.proofs.Exact.{finds-offences}
use Rattle.rules.proofs.Unique.{apart}
use Rattle.rules.proofs.Full.{full}

-- what a pass does, from which demands 2 and 3 follow
pub record Judges (t : Tree) (p : PassRules) : Type 0 where
  -- its records are those of the full list that have its codes
  pub part : of_pass p (offences t) ≡ p.part t
  -- it has none exactly when there is none of its offences
  pub accepts : (p.part t ≡ []) ↔ None t p
  -- else there is a first of them, and its first record is that
  pub has_first : (p.part t ≡ [] → ⊥) → (r : Rec) × FirstOffence t p r
  pub refuses : (r : Rec) → FirstOffence t p r → (l : List Rec) × (p.part t ≡ r ∷ l)

-- The records of a pass among those of a list

module _ (p : PassRules) where
  tells-of : (r : Rec) → Tells (both (leb p.least r.code) (leb r.code p.most)) (Of p r)
  tells-of r = tells_both (record { so = leb-true _ _; back = le-leb _ _ }) (record { so = leb-true _ _; back = le-leb _ _ })

  -- what of_pass does at a record
  abbrev chosen : Bool → Rec → List Rec → List Rec
  chosen b r l = pick b (r ∷ of_pass p l) (of_pass p l)

  of-all : (l : List Rec) → ((r : Rec) → Memᴰ r l → Of p r) → of_pass p l ≡ l
  unfolding of_pass
  of-all [] h = refl
  of-all (r ∷ l) h = ap (λ (b : Bool). chosen b r l) ((tells-of r).back (h r (Memᴰ.head refl))) ∙ ap (λ (m : List Rec). r ∷ m) (of-all l (λ q i. h q (Memᴰ.tail i)))

  of_none : (l : List Rec) → ((r : Rec) → Memᴰ r l → Of p r → ⊥) → of_pass p l ≡ []
  unfolding of_pass
  of_none [] h = refl
  of_none (r ∷ l) h = go (both (leb p.least r.code) (leb r.code p.most)) refl (of_none l (λ q i. h q (Memᴰ.tail i)))
    where
      go : (b : Bool) → both (leb p.least r.code) (leb r.code p.most) ≡ b → of_pass p l ≡ [] → chosen b r l ≡ []
      go true e n = absurd (h r (Memᴰ.head refl) ((tells-of r).so e))
      go false e n = n

  of-append : (l m : List Rec) → of_pass p (l ++ m) ≡ of_pass p l ++ of_pass p m
  unfolding of_pass
  of-append [] m = refl
  of-append (r ∷ l) m = go (both (leb p.least r.code) (leb r.code p.most)) (of-append l m)
    where
      go : (b : Bool) → of_pass p (l ++ m) ≡ of_pass p l ++ of_pass p m → chosen b r (l ++ m) ≡ chosen b r l ++ of_pass p m
      go true e = ap (λ (n : List Rec). r ∷ n) e
      go false e = e

  finds-of : (l : List Rec) → Finds (of_pass p l) (λ r. Memᴰ r l × Of p r)
  unfolding of_pass
  finds-of [] = record { so = λ r m. absurd (Memᴰ.not-nil m); back = λ r h. absurd (Memᴰ.not-nil h.0) }
  finds-of (q ∷ l) = go (both (leb p.least q.code) (leb q.code p.most)) (tells-of q) (finds-of l)
    where
      go : (b : Bool) → Tells b (Of p q) → Finds (of_pass p l) (λ r. Memᴰ r l × Of p r) → Finds (chosen b q l) (λ r. Memᴰ r (q ∷ l) × Of p r)
      go true t f = record {
        so = λ r m. ⊎_elim (λ (e : r ≡ q). (Memᴰ.head e, subst (Of p) (sym e) (t.so refl))) (λ (i : Memᴰ r (of_pass p l)). let u = f.so r i in (Memᴰ.tail u.0, u.1)) (Memᴰ.cases_cons m);
        back = λ r h. ⊎_elim (λ (e : r ≡ q). Memᴰ.head e) (λ (i : Memᴰ r l). Memᴰ.tail (f.back r (i, h.1))) (Memᴰ.cases_cons h.0);
      }
      go false t f = record {
        so = λ r m. let u = f.so r m in (Memᴰ.tail u.0, u.1);
        back = λ r h. ⊎_elim (λ (e : r ≡ q). let z : false ≡ true = t.back (subst (Of p) e h.1) in absurd (mathlib.Core.Bool.true≢false (sym z))) (λ (i : Memᴰ r l). f.back r (i, h.1)) (Memᴰ.cases_cons h.0);
      }

  ordered_of : (k : Rec → List ℕ) (l : List Rec) → Ordered k l → Ordered k (of_pass p l)
  unfolding of_pass Ordered
  ordered_of k [] h = tt
  ordered_of k (r ∷ l) h = go (both (leb p.least r.code) (leb r.code p.most)) (ordered_of k l h.1)
    where
      go : (b : Bool) → Ordered k (of_pass p l) → Ordered k (chosen b r l)
      go true o = (λ s m. h.0 s ((finds-of l).so s m).0, o)
      go false o = o

-- The codes of each pass's records

-- a record of code c, whatever else is known of it
code : (p : PassRules) (r : Rec) {c : ℕ} {P : Type 0} → both (leb p.least c) (leb c p.most) ≡ true → (r.code ≡ c) × P → Of p r
code p r {c} e s =
    let h : (p.least ≤ c) × (c ≤ p.most) = (tells_both (record { so = leb-true _ _; back = le-leb _ _ }) (record { so = leb-true _ _; back = le-leb _ _ })).so e in
    let q = s.0 in
    (omega arith, omega arith)

module _ (t : Tree) (r : Rec) where
  of-resolve : Memᴰ r (resolve t) → Of resolving r
  of-resolve m =
      ⊎_elim (c refl) (⊎_elim (c refl) (⊎_elim (c refl) (⊎_elim (c refl) (⊎_elim of24 (⊎_elim (⊎_elim (c refl) (c refl)) (⊎_elim (c refl)
      (⊎_elim (⊎_elim (c refl) (λ s. c refl (unknown-so t r (inl s)))) of35)))))))
      ((finds-resolve t).so r m)
    where
      c : {n : ℕ} {P : Type 0} → both (leb 20 n) (leb n 40) ≡ true → (r.code ≡ n) × P → Of resolving r
      c = code resolving r

      of24 : Found24 t r → Of resolving r
      of24 = ⊎_elim (c refl) (⊎_elim (c refl) (⊎_elim (c refl) (⊎_elim (c refl) (⊎_elim (c refl) (c refl)))))

      of35 : Found35 t r → Of resolving r
      of35 = ⊎_elim (c refl) (⊎_elim (c refl) (⊎_elim (c refl) (⊎_elim (c refl) (⊎_elim (c refl) (⊎_elim (c refl) (λ s. c refl (unknown-so t r (inr s))))))))

  of-access : Memᴰ r (access t) → Of accessing r
  of-access m = ⊎_elim (code accessing r refl) (code accessing r refl) ((finds-access t).so r m)

  of-linear : Memᴰ r (linear t) → Of linearity r
  of-linear m = ⊎_elim (code linearity r refl) (⊎_elim (code linearity r refl) (code linearity r refl)) ((finds-linear t).so r m)

-- a list of three parts, of which one has the pass's records
module _ (p : PassRules) (a b c : List Rec) where
  parts : of_pass p (a ++ (b ++ c)) ≡ of_pass p a ++ (of_pass p b ++ of_pass p c)
  parts = of-append p a (b ++ c) ∙ ap (λ (l : List Rec). of_pass p a ++ l) (of-append p b c)

module _ (t : Tree) where
  -- what is left of each part
  left-of : (p : PassRules) {a b c : List Rec} → of_pass p (resolve t) ≡ a → of_pass p (access t) ≡ b → of_pass p (linear t) ≡ c → of_pass p (offences t) ≡ a ++ (b ++ c)
  unfolding offences
  left-of p x y z = parts p (resolve t) (access t) (linear t) ∙ ap₂ ◌++◌ x (ap₂ ◌++◌ y z)

  -- a part has nothing of another pass
  resolve-not : (p : PassRules) → ((r : Rec) → Of resolving r → Of p r → ⊥) → of_pass p (resolve t) ≡ []
  resolve-not p n = of_none p (resolve t) (λ r m. n r (of-resolve t r m))

  access-not : (p : PassRules) → ((r : Rec) → Of accessing r → Of p r → ⊥) → of_pass p (access t) ≡ []
  access-not p n = of_none p (access t) (λ r m. n r (of-access t r m))

  linear-not : (p : PassRules) → ((r : Rec) → Of linearity r → Of p r → ⊥) → of_pass p (linear t) ≡ []
  linear-not p n = of_none p (linear t) (λ r m. n r (of-linear t r m))

  part-resolve : of_pass resolving (offences t) ≡ resolve t
  part-resolve = left-of resolving (of-all resolving (resolve t) (of-resolve t)) (access-not resolving (λ r u h. omega arith)) (linear-not resolving (λ r u h. omega arith)) ∙ append-nil (resolve t)

  part-access : of_pass accessing (offences t) ≡ access t
  part-access = left-of accessing (resolve-not accessing (λ r u h. omega arith)) (of-all accessing (access t) (of-access t)) (linear-not accessing (λ r u h. omega arith)) ∙ append-nil (access t)

  part-linear : of_pass linearity (offences t) ≡ linear t
  part-linear = left-of linearity (resolve-not linearity (λ r u h. omega arith)) (access-not linearity (λ r u h. omega arith)) (of-all linearity (linear t) (of-linear t))

-- What a pass does, of the records in its part

module _ (t : Tree) (p : PassRules) where
  abbrev Mine : List Rec → Type 0
  Mine l = Finds l (λ r. Offence t r × Of p r)

  accepts : (l : List Rec) → Mine l → (l ≡ []) ↔ None t p
  accepts [] f = (λ e r x y. Memᴰ.not-nil (f.back r (x, y)), λ n. refl)
  accepts (r ∷ l) f =
      let o = f.so r (Memᴰ.head refl) in
      (λ e. absurd (Memᴰ.not-nil (subst (λ (m : List Rec). Memᴰ r m) e (Memᴰ.head refl))), λ n. absurd (n r o.0 o.1))

  has_first : (l : List Rec) → Mine l → Ordered (key t) l → (l ≡ [] → ⊥) → (r : Rec) × FirstOffence t p r
  unfolding Ordered
  has_first [] f o n = absurd (n refl)
  has_first (r ∷ l) f o n =
      let h = f.so r (Memᴰ.head refl) in
      (r, record { is = h.0; of = h.1; first = λ q x y. ⊎_elim inl (λ m. inr (o.0 q m)) (Memᴰ.cases_cons (f.back q (x, y))) })

  refuses : (l : List Rec) → Mine l → Ordered (key t) l → (r : Rec) → FirstOffence t p r → (m : List Rec) × (l ≡ r ∷ m)
  unfolding Ordered
  refuses [] f o r h = absurd (Memᴰ.not-nil (f.back r (h.is, h.of)))
  refuses (q ∷ l) f o r h =
      ⊎_elim begins
      (λ (m : Memᴰ r l).
      let u = f.so q (Memᴰ.head refl) in
      ⊎_elim (λ (e : q ≡ r). begins (sym e)) (λ b. absurd (apart (key t q) (key t r) (o.0 r m) b)) (h.first q u.0 u.1))
      (Memᴰ.cases_cons (f.back r (h.is, h.of)))
    where
      begins : r ≡ q → (m : List Rec) × (q ∷ l ≡ r ∷ m)
      begins e = (l, ap (λ (x : Rec). x ∷ l) (sym e))

  pub judged : Ordered (key t) (offences t) → of_pass p (offences t) ≡ p.part t → Judges t p
  judged o e =
      let f : Mine (p.part t) = subst Mine e (finds-as (λ r h. ((finds-offences t).so r h.0, h.1)) (λ r h. ((finds-offences t).back r h.0, h.1)) (finds-of p (offences t))) in
      let i : Ordered (key t) (p.part t) = subst (Ordered (key t)) e (ordered_of p (key t) (offences t) o) in
      record { part = e; accepts = accepts (p.part t) f; has_first = has_first (p.part t) f i; refuses = refuses (p.part t) f i }

module _ (s : List ℕ) (e : refusal s ≡ 0) where
  pub judges-resolve : Judges (tree s) resolving
  judges-resolve = judged (tree s) resolving (full s e).ordered (part-resolve (tree s))

  pub judges-access : Judges (tree s) accessing
  judges-access = judged (tree s) accessing (full s e).ordered (part-access (tree s))

  pub judges-linear : Judges (tree s) linearity
  judges-linear = judged (tree s) linearity (full s e).ordered (part-linear (tree s))
