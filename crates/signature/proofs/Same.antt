-- Comparing the texts of two signatures is comparing the nodes of the entries.
use Prim.Native.Nat.{ℕ, zero, suc, ◌+◌, ◌<◌, ◌≤◌}
use native.Mathlib.Omega.{arith}
use mathlib.Core.Path.{◌≡◌, refl, sym, ◌∙◌}
use mathlib.Core.Bool.{Bool, true, false, true≢false, not}
use mathlib.Core.List.{List}
use Rattle.image.specs.Pick.{pick, both}
use Rattle.image.specs.Admit.{refusal, node_count}
use Rattle.rules.specs.Sweep.{same}
use Rattle.rules.specs.Tree.{Tree, tree}
use Rattle.rules.specs.Resolve.{signature}
use Rattle.rules.proofs.Reflect.{tells-same}
use Rattle.signature.proofs.Types.{tree-past, entry-name, param-type}
use Rattle.image.proofs.Given.{given}
use Rattle.signature.specs.Alike.{same_type, signed_as}
use Rattle.signature.specs.Keys.{is_param, same_params, same_nodes}
use Rattle.signature.proofs.Pairs.{Pairing, names-other, pairs_start, pairs_end, pairs-long, pairs-short, pairs-differ, pairs-on}
use borrow.Author.Tests.{eq-eqb, lt-ltb, eqb-true, ltb-true}
use lib.Dec.{eqb, ltb}
use Rattle.image.proofs.Every.{both_left, both_right}
use Rattle.nodes.proofs.Fall.{not_so}

-- whether a parameter of the entry x stands at p
module _ (t : Tree) (x p : ℕ) where
  pub yes-param : is_param t x p ≡ true → (p < t.end x) × (t.kind p ≡ 10)
  yes-param b = (ltb-true p (t.end x) (both_left (ltb p (t.end x)) (eqb (t.kind p) 10) b), eqb-true (t.kind p) 10 (both_right (ltb p (t.end x)) (eqb (t.kind p) 10) b))

  pub param-true : p < t.end x → t.kind p ≡ 10 → is_param t x p ≡ true
  param-true l k = rw (lt-ltb p (t.end x) l, eq-eqb (t.kind p) 10 k) refl

  pub no-param : is_param t x p ≡ false → p < t.end x → t.kind p ≡ 10 → ⊥
  no-param b l k = true≢false (sym (param-true l k) ∙ b)

  pub param-false : (p < t.end x → t.kind p ≡ 10 → ⊥) → is_param t x p ≡ false
  param-false n = not_so (is_param t x p) (λ b. let y = yes-param b in n y.0 y.1)

module _ (s : List ℕ) (adm : refusal s ≡ 0) (g e : ℕ) (hg : g < node_count s) (he : e < node_count s) (kg : (tree s).kind g ≡ 9) (ke : (tree s).kind e ≡ 9) where
  abbrev More : ℕ → ℕ → ℕ → Type 0
  More n p q = Pairing s adm g e hg he kg ke p q → g + 2 ≤ p → e + 2 ≤ q → p ≤ (tree s).end g → (tree s).end g < p + n → signed_as (tree s) e g ≡ same_params (tree s) g e n p q

  -- what is left of the texts is equal if what is left of the parameters is
  params-say : (n p q : ℕ) → More n p q
  unfolding same_params
  params-say zero p q P lp lq h f = absurd (omega arith)
  params-say (suc n) p q P lp lq h f = cases (is_param (tree s) g p) refl (is_param (tree s) e q) refl (λ P' a b c d. params-say n ((tree s).end p) ((tree s).end q) P' a b c d)
    where
      types : (z : Bool) → same_type (tree s) (p + 2) (q + 2) ≡ z → is_param (tree s) g p ≡ true → is_param (tree s) e q ≡ true → More n ((tree s).end p) ((tree s).end q) → signed_as (tree s) e g ≡ both z (same_params (tree s) g e n ((tree s).end p) ((tree s).end q))
      types false c a b m = pairs-differ s adm g e hg he kg ke P lp lq (yes-param (tree s) g p a).0 (yes-param (tree s) g p a).1 (yes-param (tree s) e q b).0 (yes-param (tree s) e q b).1 c
      types true c a b m =
          let x = yes-param (tree s) g p a in
          let y = yes-param (tree s) e q b in
          let u = param-type s adm g hg p (omega arith) x.0 x.1 in
          let v = param-type s adm e he q (omega arith) y.0 y.1 in
          let u0 = u.0 in
          let v0 = v.0 in
          m (pairs-on s adm g e hg he kg ke P lp lq x.0 x.1 y.0 y.1 c) (omega arith) (omega arith) u.2 (omega arith)

      cases : (x : Bool) → is_param (tree s) g p ≡ x → (y : Bool) → is_param (tree s) e q ≡ y → More n ((tree s).end p) ((tree s).end q)
          → signed_as (tree s) e g ≡ pick x (both y (both (same_type (tree s) (p + 2) (q + 2)) (same_params (tree s) g e n ((tree s).end p) ((tree s).end q)))) (not y)
      cases false a false b m = pairs_end s adm g e hg he kg ke P lp lq (no-param (tree s) g p a) (no-param (tree s) e q b)
      cases false a true b m = pairs-long s adm g e hg he kg ke P lp lq (no-param (tree s) g p a) (yes-param (tree s) e q b).0 (yes-param (tree s) e q b).1
      cases true a false b m = pairs-short s adm g e hg he kg ke P lp lq (yes-param (tree s) g p a).0 (yes-param (tree s) g p a).1 (no-param (tree s) e q b)
      cases true a true b m = types (same_type (tree s) (p + 2) (q + 2)) refl a b m

  -- What code 23 rests on: two entries have one signature text exactly when they have one name and as many parameters, whose types are the same node by node (`same_nodes`), as `same_signature` finds out.
  pub same-text-same-nodes : same (signature (tree s) g) (signature (tree s) e) ≡ same_nodes (tree s) g e
  unfolding same_nodes
  same-text-same-nodes = names (same ((tree s).text (g + 1)) ((tree s).text (e + 1))) refl
    where
      names : (x : Bool) → same ((tree s).text (g + 1)) ((tree s).text (e + 1)) ≡ x → signed_as (tree s) e g ≡ both x (same_params (tree s) g e 2048 (g + 2) (e + 2))
      names false c = names-other s adm g e hg he kg ke (λ q. true≢false (sym ((tells-same ((tree s).text (g + 1)) ((tree s).text (e + 1))).back q) ∙ c))
      names true c =
          let n = (entry-name s adm g hg kg).0 in
          let u = (tree-past s adm g hg).1 in
          let v = (given s adm).header.nodes in
          params-say 2048 (g + 2) (e + 2) (pairs_start s adm g e hg he kg ke ((tells-same ((tree s).text (g + 1)) ((tree s).text (e + 1))).so c)) (omega arith) (omega arith) (omega arith) (omega arith)
