-- `demand-why`, `demand-reason`: `why` answers by the facts, and the reason is the true one.
use Prim.Native.Nat.{ℕ, suc, ◌+◌, ◌*◌, ◌≤◌}
use mathlib.Core.Path.{◌≡◌, refl, ap, ap₂, sym, ◌∙◌, subst}
use mathlib.Core.List.Memᴰ
use mathlib.Core.List.{List, [], ◌∷◌}
use mathlib.Core.Logic.{◌⊎◌, inl, inr, ⊎_elim, ◌↔◌}
use native.Mathlib.Omega.{arith}
use lib.ListN.{length}
use Rattle.image.specs.Admit.{refusal, node_count}
use Rattle.rules.specs.Tree.{Tree, tree}
use Rattle.rules.specs.Vocabulary.{AllOf, related_use}
use Rattle.rules.specs.Linear.{Mark, Use, Offence61, Offence62}
use Rattle.rules.proofs.Related.{points-at-use}
use Rattle.reasons.specs.Reasons.{SaysClause, SaysUse}
use Rattle.reasons.specs.Compute.{reasons}
use Rattle.reasons.specs.Demands.{Lot, HasEntry, DemandWhy, DemandReason}
use Rattle.reasons.proofs.Said.{said-entry, entry-behind}
use Rattle.reasons.proofs.Rows.{a-node, one_row, marked_twice}
use Rattle.reasons.proofs.Reasons.{reasons-are, one_list, entries-are}
use Rattle.reasons.proofs.Room.{fewer-than-nodes}
use Rattle.reasons.proofs.Found.{row-or-none, image-refused, no_lot, too_short, all_told}

-- a list of all numbers with a property, where there is none; a list without members
none-all : {P : ℕ → Type 0} (l : List ℕ) → AllOf P l → ((i : ℕ) → P i → ⊥) → length l ≡ 0
none-all [] a n = refl
none-all (i ∷ l) a n = absurd (n i (a.sound i (Memᴰ.head refl)))

all_none : {P : ℕ → Type 0} (l : List ℕ) → AllOf P l → length l ≡ 0 → (i : ℕ) → P i → ⊥
all_none [] a e i p = Memᴰ.not-nil (a.complete i p)
all_none (j ∷ l) a e i p = let d : suc (length l) ≡ 0 = e in omega arith

no_words : (w : List ℕ) → length w ≡ 0 → w ≡ []
no_words [] e = refl
no_words (a ∷ w) e = let d : suc (length w) ≡ 0 = e in absurd (omega arith)

module _ (s w : List ℕ) (p : ℕ) (z : refusal s ≡ 0) (A : Lot (tree s) p w) where
  abbrev t : Tree
  t = tree s

  abbrev e : ℕ
  e = A.entry

  abbrev x : ℕ
  x = A.row

  -- the words are those that are computed, one entry for each mark and each occurrence
  pub its-words : w ≡ reasons t e x
  its-words = one_list s z e x A.tracked.0 A.reasons (reasons-are s z e x A.tracked.0)

  long : (m l : List ℕ) → AllOf (Mark t e x) m → AllOf (Use t e x) l → length w ≡ 2 * (length m + length l)
  long m l M L = entries-are s z e x A.tracked.0 A.reasons M L

  own-long : length w ≡ 2 * (length A.reasons.burned + length A.reasons.used)
  own-long = long A.reasons.burned A.reasons.used A.reasons.all_marks A.reasons.all_uses

  has_room : length w ≤ 2 * node_count s
  has_room = let f = fewer-than-nodes s z e x A.tracked.0 A.reasons.burned A.reasons.used A.reasons.all_marks A.reasons.all_uses in let l = own-long in omega arith

  unused : Offence61 t p 0 ↔ (w ≡ [])
  unused = (so, back)
    where
      so : Offence61 t p 0 → w ≡ []
      so o =
          let d = one_row s p o.0 e o.1 x z (o.4, o.5, o.2) A.tracked in
          let a = none-all A.reasons.burned A.reasons.all_marks (rw (d.0, d.1) at o.6) in
          let b = none-all A.reasons.used A.reasons.all_uses (rw (d.0, d.1) at o.7) in
          let l = own-long in
          no_words w (omega arith)

      back : w ≡ [] → Offence61 t p 0
      back n =
          let l = own-long in
          let k = ap length n in
          let R = A.reasons in
          (e, x, A.tracked.2, refl, A.tracked.0, A.tracked.1, all_none R.burned R.all_marks (omega arith), all_none R.used R.all_uses (omega arith))

  used-twice : ((q : ℕ) × Offence62 t p q) ↔ (2 * 2 ≤ length w)
  used-twice = (so, back)
    where
      so : (q : ℕ) × Offence62 t p q → 2 * 2 ≤ length w
      so f =
          let o = f.1 in
          let d = one_row s p o.0 e o.1 x z (o.6, o.7, o.4) A.tracked in
          let l = long o.2 o.3 (rw (d.0, d.1) at o.8) (rw (d.0, d.1) at o.9) in
          let k = o.10 in
          omega arith

      back : 2 * 2 ≤ length w → (q : ℕ) × Offence62 t p q
      back n =
          let l = own-long in
          let R = A.reasons in
          (related_use R.burned R.used, (e, x, R.burned, R.used, A.tracked.2, refl, A.tracked.0, A.tracked.1, R.all_marks, R.all_uses, omega arith))

  points-at : (q : ℕ) → Offence62 t p q → (q ≡ 0) ⊎ ((b : ℕ) × HasEntry q b w)
  points-at q o =
      let u = points-at-use t p q o in
      let d = one_row s p u.0 e u.1 x z (u.2, u.3, u.4) A.tracked in
      let R = A.reasons in
      ⊎_elim
      (λ (g : Use t u.0 u.1 q).
      let i = said-entry (SaysUse t e) R.used R.u q (λ y a b S. S.its_ident) R.occurrences (R.all_uses.complete q (rw (d.0, d.1) at g)) in
      inr (i.0, subst (HasEntry q i.0) (sym R.both) (entry-behind (SaysClause t e) R.burned R.v R.u q i.0 R.clauses i.1)))
      (λ g. inl g.0)
      u.5

pub demand-why : DemandWhy
demand-why = record {
  image = image-refused;
  no_lot = λ s o p z. no_lot s o p z;
  short = λ s o w p z A l. let d = its-words s w p z A in too_short s o p z A.entry A.row A.tracked (rw d at l);
  whole = λ s o w p z A l. let d = its-words s w p z A in rw d (all_told s o p z A.entry A.row A.tracked (rw d at l));
  decided = λ s p z. ⊎_elim inl (λ f. inr (reasons (tree s) f.0 f.1, record { entry = f.0; row = f.1; tracked = f.2; reasons = reasons-are s z f.0 f.1 f.2.0 })) (row-or-none (tree s) p);
  outside = λ s p z q e x r. let n = a-node s p e x z r in let l = n.0 in let h = n.1 in ⊎_elim (λ (d : p ≡ 0). omega arith) (λ (d : node_count s ≤ p). omega arith) q;
  one_row = λ s p e f x y z. one_row s p e f x y z;
  one_list = λ s v w p z A B.
      let d = one_row s p A.entry B.entry A.row B.row z A.tracked B.tracked in
      its-words s v p z A ∙ ap₂ (reasons (tree s)) d.0 d.1 ∙ sym (its-words s w p z B);
}

pub demand-reason : DemandReason
demand-reason = record {
  number = λ s w m l p z A M L. long s w p z A m l M L;
  room = has_room;
  none = unused;
  two = used-twice;
  related = λ s w p q z A o. points-at s w p z A q o;
  marked_twice = λ s m p e x i z r a l u. marked_twice (tree s) m e x i a l u;
}
