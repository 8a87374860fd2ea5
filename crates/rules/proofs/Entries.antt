-- The entry that contains a node (`entry_of`, E8 of document 02): it is the fact `InEntry`, all that stands in an Entry has it, and what stands in a field, an event, a Genesis or an Invariant has none.
use Prim.Native.Nat.{ℕ, zero, suc, ◌+◌, ◌-◌, ◌<◌, ◌≤◌}
use mathlib.Core.Path.{◌≡◌, refl, ◌∙◌, sym, subst}
use mathlib.Core.Bool.{Bool, true, false, true≢false}
use mathlib.Core.List.Memᴰ
use mathlib.Core.List.{List, Memᴰ}
use mathlib.Core.Logic.{◌⊎◌, inl, inr, ⊎_elim, ◌↔◌}
use native.Mathlib.Omega.{arith}
use borrow.Author.Tests.{ltb-true, ltb-false}
use lib.Dec.{ltb}
use lib.ListN.{get_or-eq_default}
use Rattle.image.specs.Pick.{pick}
use Rattle.image.specs.Admit.{refusal, node_count, nodes_of}
use Rattle.image.proofs.Given.{given}
use Rattle.rules.specs.Tree.{Tree, tree, entry}
use Rattle.rules.specs.Vocabulary.{Below}
use Rattle.rules.specs.All.{latest, holder, entry_of, InEntry}
use Rattle.rules.specs.Standing.{apart, Formed}
use Rattle.rules.proofs.Admitted.{admitted}
use Rattle.rules.proofs.Ranges.{subset, disjoint, told, item_of, not-item}

-- the last at which a test holds, or none
latest-tells : (q : ℕ → Bool) (a n : ℕ) → ((a ≤ latest q a n) × (latest q a n < a + n) × (q (latest q a n) ≡ true)) ⊎ ((latest q a n ≡ 0) × ((y : ℕ) → a ≤ y → y < a + n → q y ≡ true → ⊥))
unfolding latest
latest-tells q a zero = inr (refl, λ y l h e. omega arith)
latest-tells q a (suc n) = go (q (a + n)) refl (latest-tells q a n)
  where
    Told : ℕ → Type 0
    Told x = ((a ≤ x) × (x < a + suc n) × (q x ≡ true)) ⊎ ((x ≡ 0) × ((y : ℕ) → a ≤ y → y < a + suc n → q y ≡ true → ⊥))

    go : (b : Bool) → q (a + n) ≡ b → ((a ≤ latest q a n) × (latest q a n < a + n) × (q (latest q a n) ≡ true)) ⊎ ((latest q a n ≡ 0) × ((y : ℕ) → a ≤ y → y < a + n → q y ≡ true → ⊥)) → Told (pick b (a + n) (latest q a n))
    go true e r = inl (omega arith, omega arith, e)
    go false e r = ⊎_elim (λ x. let h = x.1 in inl (x.0, omega arith, x.2)) (λ x. inr (x.0, λ y l h t. last y l h t x.1 (ltb y (a + n)) refl)) r
      where
        last : (y : ℕ) → a ≤ y → y < a + suc n → q y ≡ true → ((z : ℕ) → a ≤ z → z < a + n → q z ≡ true → ⊥) → (c : Bool) → ltb y (a + n) ≡ c → ⊥
        last y l h t none true d = none y l (ltb-true y (a + n) d) t
        last y l h t none false d = let g = ltb-false y (a + n) d in let z : y ≡ a + n = omega arith in true≢false (sym (subst (λ (m : ℕ). q m ≡ true) z t) ∙ e)

module _ (s : List ℕ) (adm : refusal s ≡ 0) where
  F : Formed (tree s)
  F = admitted s adm

  -- past the nodes no kind is read
  entry-inside : (i : ℕ) → Memᴰ ((tree s).kind i) entry → i < (tree s).end 0
  entry-inside i k = go (ltb i (node_count s)) refl
    where
      go : (b : Bool) → ltb i (node_count s) ≡ b → i < (tree s).end 0
      go true d = let h = ltb-true i (node_count s) d in let r = (given s adm).nodes.root_end in omega arith
      go false d =
          let h = ltb-false i (node_count s) d in
          let y = (given s adm).node_bytes in
          let z : (tree s).kind i ≡ 0 = get_or-eq_default (nodes_of s) 0 (omega arith) in
          let n : (tree s).kind i ≡ 9 = Memᴰ.eq_of_singleton k in
          absurd (omega arith)

  found : (p : ℕ) → InEntry (tree s) p (entry_of (tree s) p)
  unfolding holder
  found p =
      ⊎_elim
      (λ x.
      let l = x.0 in
      let h = x.1 in
      let w = (told (tree s) F entry p _).so x.2 in
      inl (record { after = l; inside = entry-inside _ w.0; kind = w.0 }, omega arith, w.1))
      (λ x. inr (x.0, λ y b l h. let a = b.after in x.1 y a (omega arith) ((told (tree s) F entry p y).back (b.kind, h))))
      (latest-tells _ 1 (p - 0))

  pub entry-is : (p e : ℕ) → (entry_of (tree s) p ≡ e) ↔ InEntry (tree s) p e
  entry-is p e = (λ z. subst (InEntry (tree s) p) z (found p), λ i. ⊎_elim (λ x. item_of (tree s) F entry p refl refl x.0 x.1 x.2) (λ x. ⊎_elim (λ y. absurd (x.1 _ y.0 y.1 y.2)) (λ y. y.0 ∙ sym x.0) (found p)) i)

module _ (t : Tree) (F : Formed t) where
  -- all that stands in an Entry has it
  pub in_entry : {e : ℕ} (p : ℕ) → Below t entry t.root e → e ≤ p → p < t.end e → entry_of t p ≡ e
  in_entry p b l h = item_of t F entry p refl refl b l h

  -- what stands in a field, an event, a Genesis or an Invariant has none
  pub outside : {ks : List ℕ} {x : ℕ} (p : ℕ) → subset ks apart ≡ true → disjoint ks entry ≡ true → Below t ks t.root x → x ≤ p → p < t.end x → entry_of t p ≡ 0
  outside p q d b l h = not-item t F entry p q refl d b l h
