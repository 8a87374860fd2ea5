-- Over one Asset item: a walk that knows whether it met one; and no 22 where the image has no name `mint_asset`.
use Prim.Native.Nat.{ℕ, ◌<◌, ◌≤◌}
use mathlib.Core.Path.{◌≡◌, refl, ap, ◌∙◌, sym}
use mathlib.Core.Bool.{Bool, true, false, true≢false}
use mathlib.Core.List.Memᴰ
use mathlib.Core.List.{List, []}
use mathlib.Core.Logic.{◌⊎◌, inl, inr, ⊎_elim}
use native.Mathlib.Nat.{eq-or-lt_of_le}
use native.Mathlib.Omega.{arith}
use borrow.Author.Tests.{lt-ltb, ltb-true, ltb-false}
use lib.Dec.{ltb}
use Rattle.image.proofs.Decide.{lt-or-ge}
use Rattle.rules.specs.Sweep.{has}
use Rattle.rules.specs.Tree.{Tree, asset}
use Rattle.rules.specs.Vocabulary.{Below}
use Rattle.rules.specs.Words.{mint_asset}
use Rattle.rules.specs.Resolve.{many_assets, ManyAssets, mint_calls, group22, Offence22}
use Rattle.rules.proofs.Reflect.{Tells, finds-nothing, tells_as, tells-some_below, tells-ltb, tells-has}
use Rattle.rules.proofs.Resolve.{finds22}
use Rattle.records.proofs.Sweep.{has_one}
use Rattle.nodes.specs.Shown.{In, tree_of}
use Rattle.nodes.proofs.Fall.{not_so}
use Rattle.nodes.proofs.Shapes.{within, first-in}
use Rattle.names.proofs.Said.{unsaid}
use Rattle.resolve_mints.specs.Minted.{Minting}

-- of the nodes from 1 up to p, at most a is an Asset; 0: none is
pub record One (t : Tree) (a p : ℕ) : Type 0 where
  pub before : a < p
  pub is : 0 < a → t.kind a ≡ 2
  pub alone : (j : ℕ) → 0 < j → j < p → t.kind j ≡ 2 → j ≡ a

-- whether one is met
pub record Met (t : Tree) (met : Bool) (p : ℕ) : Type 0 where
  pub asset : ℕ
  pub one : One t asset p
  pub says : met ≡ ltb 0 asset

pub met-starts : (t : Tree) → Met t false 1
met-starts t = record { asset = 0; one = record { before = omega arith; is = λ l. absurd (omega arith); alone = λ j l h k. omega arith }; says = refl }

-- on to q, past nodes that are none
module _ (t : Tree) {a p q : ℕ} (O : One t a p) (l : p < q) (none : (j : ℕ) → p < j → j < q → has (t.kind j) asset ≡ false) where
  -- an Asset before q is p, or stands before p
  last : (j : ℕ) → j < q → t.kind j ≡ 2 → (j ≡ p) ⊎ (j < p)
  last j h k =
      ⊎_elim (λ (e : j ≡ p). inl e) (λ (g : j < p). inr g)
      (⊎_elim (λ (g : j < p). inr g) (λ (g : p ≤ j). ⊎_elim (λ (e : p ≡ j). inl (sym e)) (λ (f : p < j). absurd (true≢false (sym (has_one _ 2 k) ∙ none j f h))) (eq-or-lt_of_le g)) (lt-or-ge j p))

  one-still : (t.kind p ≡ 2 → ⊥) → One t a q
  one-still n = record {
    before = let b = O.before in omega arith;
    is = O.is;
    alone = λ j i h k. ⊎_elim (λ (e : j ≡ p). absurd (n (ap t.kind (sym e) ∙ k))) (λ (g : j < p). O.alone j i g k) (last j h k);
  }

  one-met : a ≤ 0 → t.kind p ≡ 2 → One t p q
  one-met z k = record {
    before = l;
    is = λ i. k;
    alone = λ j i h m. ⊎_elim (λ (e : j ≡ p). e) (λ (g : j < p). let e = O.alone j i g m in omega arith) (last j h m);
  }

module _ (t : Tree) {met : Bool} {p q : ℕ} (M : Met t met p) (l : p < q) (none : (j : ℕ) → p < j → j < q → has (t.kind j) asset ≡ false) where
  pub met-still : (t.kind p ≡ 2 → ⊥) → Met t met q
  met-still n = record { asset = M.asset; one = one-still t M.one l none n; says = M.says }

  pub met-now : met ≡ false → t.kind p ≡ 2 → Met t true q
  met-now e k = record { asset = p; one = one-met t M.one l none (ltb-false 0 M.asset (sym M.says ∙ e)) k; says = sym (lt-ltb 0 p (let b = M.one.before in omega arith)) }

tells-many : (t : Tree) → Tells (many_assets t) (ManyAssets t)
unfolding many_assets
tells-many t =
    tells_as (λ s. (s.2.0, s.0, s.2.2, s.2.1, s.1)) (λ s. (s.1, s.4, (s.0, s.3, s.2)))
    (tells-some_below t asset t.root (λ b. tells-some_below t asset t.root (λ a. tells-ltb a b)))

module _ (t : Tree) (root : t.root ≡ 0) {met : Bool} {p : ℕ} (M : Met t met p) where
  pub many : met ≡ true → t.kind p ≡ 2 → p < t.end t.root → true ≡ many_assets t
  many e k h =
      let O = M.one in
      let b = O.before in
      let l = ltb-true 0 M.asset (sym M.says ∙ e) in
      sym ((tells-many t).back (M.asset, p, b, item M.asset l (omega arith) (O.is l), item p (omega arith) h k))
    where
      item : (x : ℕ) → 0 < x → x < t.end t.root → t.kind x ≡ 2 → Below t asset t.root x
      item x i j k = record { after = omega arith; inside = j; kind = (tells-has _ asset).so (has_one _ 2 k) }

  pub few : t.end t.root ≤ p → false ≡ many_assets t
  few l = sym (not_so _ (λ e. go ((tells-many t).so e)))
    where
      go : ManyAssets t → ⊥
      go (x, y, h, B, C) =
          let O = M.one in
          let i = B.after in
          let j = C.inside in
          let d = O.alone x (omega arith) (omega arith) (Memᴰ.eq_of_singleton B.kind) in
          let e = O.alone y (omega arith) (omega arith) (Memᴰ.eq_of_singleton C.kind) in
          omega arith

pub no-mints : {nodes : List ℕ} {mint : ℕ} (T : Minting nodes 0 mint) → In nodes 0 0 → mint < 1 → group22 (tree_of T.view) ≡ []
unfolding has
no-mints T root z = finds-nothing (finds22 (tree_of T.view)) (λ r o. never r.place r.related o.1)
  where
    never : (p q : ℕ) → Offence22 (tree_of T.view) p q → ⊥
    never p q (i, e, M, B, (s, S, C), (k, m)) =
        let W = T.view in
        let c = within W (within W (within W root B.after B.inside) S.after S.inside) C.after C.inside in
        unsaid (record { view = W; here = first-in W c 43 (Memᴰ.eq_of_singleton C.kind) (omega arith) refl; carries = inr k }) W mint_asset T.mint_number z (Memᴰ.eq_of_singleton m)

-- the group, where there is over one Asset item, and where there is not
pub few-22 : (t : Tree) → many_assets t ≡ false → group22 t ≡ []
unfolding group22
few-22 t e = rw e

pub many-22 : (t : Tree) → many_assets t ≡ true → mint_calls t ≡ group22 t
unfolding group22
many-22 t e = rw e
