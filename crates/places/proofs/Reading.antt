-- What a table of first or last nodes says of the rules' tests ("met before", "no such Let in an earlier statement", "last declaration" of document 01).
use Prim.Native.Nat.{ℕ, zero, suc, ◌+◌, ◌-◌, ◌<◌, ◌≤◌}
use mathlib.Core.Path.{◌≡◌, refl, ap, ◌∙◌, sym, subst}
use mathlib.Core.Bool.{Bool, true, false, not, true≢false}
use mathlib.Core.List.{List, Memᴰ}
use mathlib.Core.Logic.{◌⊎◌, inl, inr, ⊎_elim}
use native.Mathlib.Omega.{arith}
use borrow.Author.Tests.{ne_eqb, lt-ltb, ltb-true, ltb-false, le-leb, leb-true}
use lib.Dec.{ltb, leb}
use Rattle.image.specs.Pick.{both}
use Rattle.image.proofs.Decide.{eq-or-ne}
use Rattle.rules.specs.Sweep.{also, has}
use Rattle.rules.specs.Tree.{Tree, tree}
use Rattle.rules.specs.Vocabulary.{Below, some_below, Named, named, Declares, declares, first_named}
use Rattle.rules.specs.Vocabulary as vocabulary
use Rattle.rules.proofs.Reflect.{Tells, one-fact, tells_both, tells-not, tells-ltb, tells-also, tells-has, tells-some_below, tells-named, tells-declares, first_back}
use Rattle.nodes.specs.Table.{folded}
use Rattle.nodes.proofs.Names.{marks-as}
use Rattle.places.specs.declared.Note.TheVariants.{First, Last, Off}
use Rattle.places.specs.Places.{Places, noting, notes, notes_below, is_named, first_of, last_of}

-- Numbers

-- none from a up to e passes; v is the first, the last that does
abbrev pub None : (ℕ → Bool) → ℕ → ℕ → Type 0
None p a e = (j : ℕ) → a ≤ j → j < e → p j ≡ false

pub record Found (p : ℕ → Bool) (a e v : ℕ) : Type 0 where
  pub is : p v ≡ true
  pub low : a ≤ v
  pub high : v < e

abbrev FirstOr : (ℕ → Bool) → ℕ → ℕ → ℕ → Type 0
FirstOr p a e v = ((v ≡ 0) × None p a e) ⊎ (Found p a e v × None p a v)

abbrev pub LastOr : (ℕ → Bool) → ℕ → ℕ → ℕ → Type 0
LastOr p a e v = ((v ≡ 0) × None p a e) ⊎ (Found p a e v × None p (suc v) e)

module _ (p : ℕ → Bool) (a : ℕ) where
  none_more : (b n : ℕ) → None p b (a + n) → p (a + n) ≡ false → None p b (a + suc n)
  none_more b n h e j l g = ⊎_elim (λ (q : j ≡ a + n). ap p q ∙ e) (λ (d : j ≡ a + n → ⊥). h j l (omega (arith, d))) (eq-or-ne j (a + n))

  found-more : (n v : ℕ) → Found p a (a + n) v → Found p a (a + suc n) v
  found-more n v F = record { is = F.is; low = F.low; high = let h = F.high in omega arith }

  found_here : (n : ℕ) → p (a + n) ≡ true → Found p a (a + suc n) (a + n)
  found_here n e = record { is = e; low = omega arith; high = omega arith }

  first-or : 0 < a → (n : ℕ) → FirstOr p a (a + n) (notes First p 0 a n)
  unfolding notes folded
  first-or z zero = inl (refl, λ j l h. absurd (omega arith))
  first-or z (suc n) = go (notes First p 0 a n) (p (a + n)) refl (first-or z n)
    where
      go : (v : ℕ) (b : Bool) → p (a + n) ≡ b → FirstOr p a (a + n) v → FirstOr p a (a + suc n) (noting First v b (a + n))
      go v true e (inl h) = rw h.0 (inr (found_here n e, h.1))
      go v false e (inl h) = inl (h.0, none_more a n h.1 e)
      go v true e (inr h) = let l = h.0.low in rw (ne_eqb v 0 (λ q. omega arith)) (inr (found-more n v h.0, h.1))
      go v false e (inr h) = inr (found-more n v h.0, h.1)

  pub last_or : (n : ℕ) → LastOr p a (a + n) (notes Last p 0 a n)
  unfolding notes folded
  last_or zero = inl (refl, λ j l h. absurd (omega arith))
  last_or (suc n) = go (notes Last p 0 a n) (p (a + n)) refl (last_or n)
    where
      go : (v : ℕ) (b : Bool) → p (a + n) ≡ b → LastOr p a (a + n) v → LastOr p a (a + suc n) (noting Last v b (a + n))
      go v true e h = inr (found_here n e, λ j l g. absurd (omega arith))
      go v false e (inl h) = inl (h.0, none_more a n h.1 e)
      go v false e (inr h) = inr (found-more n v h.0, none_more (suc v) n h.1 e)

  -- taken off: nothing is noted any more
  off-clears : (v n : ℕ) → (v ≡ 0) ⊎ Found p a (a + n) v → notes Off p v a n ≡ 0
  unfolding notes folded
  off-clears v zero (inl e) = e
  off-clears v zero (inr F) = let l = F.low in let h = F.high in absurd (omega arith)
  off-clears v (suc n) h = go (notes Off p v a n) (p (a + n)) refl (off-clears v n) h
    where
      go : (u : ℕ) (b : Bool) → p (a + n) ≡ b → ((v ≡ 0) ⊎ Found p a (a + n) v → u ≡ 0) → (v ≡ 0) ⊎ Found p a (a + suc n) v → noting Off u b (a + n) ≡ 0
      go u true e f h = refl
      go u false e f (inl d) = f (inl d)
      go u false e f (inr F) = let h = F.high in let d : v ≡ a + n → ⊥ = λ q. true≢false (sym F.is ∙ ap p q ∙ e) in f (inr (record { is = F.is; low = F.low; high = omega (arith, d) }))

-- Nodes below a whose Name is w

module _ (t : Tree) (ks : List ℕ) (a : ℕ) (w : List ℕ) where
  at-tells : (i : ℕ) → Tells (also (has (t.kind i) ks) (named t w) i) (Memᴰ (t.kind i) ks × (t.text (i + 1) ≡ w))
  at-tells i = tells-also (named t w) i (tells-has (t.kind i) ks) (tells-named t w i)

  module _ {v : ℕ} where
    named-so : Found (is_named t ks w) (suc a) (suc a + (t.end a - suc a)) v → Named t ks a w v
    named-so F = let l = F.low in let h = F.high in let q = (at-tells v).so F.is in (record { after = omega arith; inside = omega arith; kind = q.0 }, q.1)

    named-not : {b e : ℕ} → None (is_named t ks w) b e → b ≤ v → v < e → Named t ks a w v → ⊥
    named-not n l h N = true≢false (sym ((at-tells v).back (N.0.kind, N.1)) ∙ n v l h)

  -- the first is the first, and 0 where there is none
  pub first-is : 0 < first_of t ks a w → vocabulary.IsFirst (Named t ks a w) (first_of t ks a w)
  unfolding notes_below
  first-is l = ⊎_elim (λ h. let e = h.0 in absurd (omega arith)) (λ h. record { is = named-so h.0; none = λ j g N. let b = N.0.after in named-not h.1 b g N }) (first-or (is_named t ks w) (suc a) (omega arith) (t.end a - suc a))

  pub first_absent : first_of t ks a w ≡ 0 → (i : ℕ) → Named t ks a w i → ⊥
  unfolding notes_below
  first_absent e i N = ⊎_elim (λ h. let b = N.0.after in let c = N.0.inside in named-not h.1 b (omega arith) N) (λ h. let l = h.0.low in omega arith) (first-or (is_named t ks w) (suc a) (omega arith) (t.end a - suc a))

  -- the last is the last
  pub last-is : 0 < last_of t ks a w → vocabulary.IsLast (Named t ks a w) (last_of t ks a w)
  unfolding notes_below
  last-is l = ⊎_elim (λ h. let e = h.0 in absurd (omega arith)) (λ h. record { is = named-so h.0; none = λ j g N. let c = N.0.inside in named-not h.1 g (omega arith) N }) (last_or (is_named t ks w) (suc a) (t.end a - suc a))

  pub last-absent : last_of t ks a w ≡ 0 → (i : ℕ) → Named t ks a w i → ⊥
  unfolding notes_below
  last-absent e i N = ⊎_elim (λ h. let b = N.0.after in let c = N.0.inside in named-not h.1 b (omega arith) N) (λ h. let l = h.0.low in omega arith) (last_or (is_named t ks w) (suc a) (t.end a - suc a))

  -- whether one is there
  tells-noted : (v : ℕ) → (0 < v → Named t ks a w v) → (v ≡ 0 → (i : ℕ) → Named t ks a w i → ⊥) → declares t ks a w ≡ ltb 0 v
  tells-noted v f g =
      one-fact (tells-declares t ks a w)
      (record {
        so = λ e. (v, f (ltb-true 0 v e));
        back = λ d. lt-ltb 0 v (⊎_elim (λ (q : v ≡ 0). absurd (g q d.0 d.1)) (λ (n : v ≡ 0 → ⊥). omega (arith, n)) (eq-or-ne v 0));
      })

  pub first-declares : declares t ks a w ≡ ltb 0 (first_of t ks a w)
  first-declares = tells-noted (first_of t ks a w) (λ l. (first-is l).is) first_absent

  pub last-declares : declares t ks a w ≡ ltb 0 (last_of t ks a w)
  last-declares = tells-noted (last_of t ks a w) (λ l. (last-is l).is) last-absent

  -- one is there, and none before s
  pub first-late : (s : ℕ) → 0 < s → both (declares t ks a w) (not (some_below t ks a (λ l. both (ltb l s) (named t w l)))) ≡ leb s (first_of t ks a w)
  first-late s z =
      one-fact
      (tells_both (tells-declares t ks a w) (tells-not (tells-some_below t ks a (λ l. tells_both (tells-ltb l s) (tells-named t w l)))))
      (record {
        so = λ e. let g = leb-true s (first_of t ks a w) e in let F = first-is (omega arith) in ((first_of t ks a w, F.is), λ x. let h = x.2.0 in F.none x.0 (omega arith) (x.1, x.2.1));
        back = λ d. le-leb s (first_of t ks a w) (go d.0 d.1 (eq-or-ne (first_of t ks a w) 0) (ltb (first_of t ks a w) s) refl);
      })
    where
      go : Declares t ks a w → (((l : ℕ) × Below t ks a l × ((l < s) × (t.text (l + 1) ≡ w))) → ⊥) → (first_of t ks a w ≡ 0) ⊎ (first_of t ks a w ≡ 0 → ⊥) → (b : Bool) → ltb (first_of t ks a w) s ≡ b → s ≤ first_of t ks a w
      go d n (inl q) b e = absurd (first_absent q d.0 d.1)
      go d n (inr q) false e = ltb-false _ _ e
      go d n (inr q) true e = let N = (first-is (omega (arith, q))).is in absurd (n (first_of t ks a w, N.0, (ltb-true _ _ e, N.1)))

  -- a test that only the last of them can pass
  pub last-holds : (q : ℕ → Bool) → 0 < last_of t ks a w → ((i : ℕ) → Below t ks a i → q i ≡ true → vocabulary.IsLast (Named t ks a w) i) → some_below t ks a q ≡ q (last_of t ks a w)
  last-holds q l h =
      one-fact {P = q (last_of t ks a w) ≡ true}
      (record {
        so = λ e. let x = (tells-some_below t ks a (λ i. itself (q i))).so e in subst (λ (i : ℕ). q i ≡ true) (same-last x.0 (h x.0 x.1 x.2)) x.2;
        back = λ e. (tells-some_below t ks a (λ i. itself (q i))).back (last_of t ks a w, (last-is l).is.0, e);
      })
      (itself (q (last_of t ks a w)))
    where
      itself : (b : Bool) → Tells b (b ≡ true)
      itself b = record { so = λ e. e; back = λ e. e }

      same-last : (i : ℕ) → vocabulary.IsLast (Named t ks a w) i → i ≡ last_of t ks a w
      same-last i L = go (ltb i (last_of t ks a w)) refl (ltb (last_of t ks a w) i) refl
        where
          go : (b : Bool) → ltb i (last_of t ks a w) ≡ b → (c : Bool) → ltb (last_of t ks a w) i ≡ c → i ≡ last_of t ks a w
          go true e c f = absurd (L.none (last_of t ks a w) (ltb-true _ _ e) (last-is l).is)
          go false e true f = absurd ((last-is l).none i (ltb-true _ _ f) L.is)
          go false e false f = let x = ltb-false i (last_of t ks a w) e in let y = ltb-false (last_of t ks a w) i f in omega arith

  -- taken off again
  first_off : notes_below Off t ks a w (first_of t ks a w) ≡ 0
  unfolding notes_below
  first_off = off-clears (is_named t ks w) (suc a) _ (t.end a - suc a) (⊎_elim (λ h. inl h.0) (λ h. inr h.0) (first-or (is_named t ks w) (suc a) (omega arith) (t.end a - suc a)))

-- what is noted for the name of a node of kind ks below a is the first of that name
pub first-named : (t : Tree) (ks : List ℕ) (a i : ℕ) → Below t ks a i → first_named t ks a i ≡ first_of t ks a (t.text (i + 1))
unfolding first_named
first-named t ks a i B = go (eq-or-ne (first_of t ks a (t.text (i + 1))) 0)
  where
    go : (first_of t ks a (t.text (i + 1)) ≡ 0) ⊎ (first_of t ks a (t.text (i + 1)) ≡ 0 → ⊥) → first_named t ks a i ≡ first_of t ks a (t.text (i + 1))
    go (inl e) = absurd (first_absent t ks a (t.text (i + 1)) e i (B, refl))
    go (inr n) = sym (first_back t ks a (tells-named t (t.text (i + 1))) (first_of t ks a (t.text (i + 1))) (first-is t ks a (t.text (i + 1)) (omega (arith, n))))

-- the tables after taking off
pub firsts-off : {s : List ℕ} (ks : List ℕ) (a : ℕ) {r : List ℕ} → Places s (λ w. notes_below Off (tree s) ks a w (first_of (tree s) ks a w)) r → Places s (λ w. 0) r
firsts-off {s} ks a N = marks-as (λ w. first_off (tree s) ks a w) N
