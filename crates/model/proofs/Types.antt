-- Where the types of an item stand: in an entry before its first statement. A walk over them goes past no such place.
use Prim.Native.Nat.{ℕ, ◌+◌, ◌<◌, ◌≤◌}
use mathlib.Core.Path.{◌≡◌, refl, ap, ◌∙◌, sym}
use mathlib.Core.Bool.{Bool, true, false, true≢false}
use mathlib.Core.List.{List}
use mathlib.Core.Logic.{inr, ⊎_elim}
use native.Mathlib.Nat.{eq-or-lt_of_le}
use native.Mathlib.Omega.{arith}
use borrow.Author.Tests.{ne_eqb}
use Rattle.image.specs.Pick.{pick}
use Rattle.rules.specs.Sweep.{has}
use Rattle.rules.specs.Tree.{Tree, type, type_holders}
use Rattle.rules.proofs.Admitted.{no-type-below}
use Rattle.records.proofs.Sweep.{has-not}
use Rattle.nodes.specs.Shown.{View, In, tree_of}
use Rattle.nodes.specs.First.{Head}
use Rattle.nodes.specs.Walk.{onward}
use Rattle.nodes.proofs.Parts.{inside, past, end_is}
use Rattle.nodes.proofs.Shapes.{within, ends-within}
use Rattle.nodes.proofs.Spans.{Span, span_of}
use Rattle.nodes.proofs.Flat.{cover, statements_are}
use Rattle.nodes.proofs.Until.{until-on}
use Rattle.nodes.proofs.Head.{until-head}
use Rattle.model.specs.Assets.{TypesEnd}

onward-under : (t : Tree) (into : List ℕ) (i : ℕ) {r : ℕ} → i < r → (has (t.kind i) into ≡ false → t.end i ≤ r) → onward t into i ≤ r
onward-under t into i {r} l f = go (has (t.kind i) into) refl
  where
    go : (b : Bool) → has (t.kind i) into ≡ b → pick b (i + 1) (t.end i) ≤ r
    go true e = omega arith
    go false e = f e

-- statements, whose kinds are 24 to 28, hold no types
no-holder : (k : ℕ) → 24 ≤ k → has k type_holders ≡ false
unfolding has
no-holder k l = simp (ne_eqb k 3 (λ d. omega arith), ne_eqb k 4 (λ d. omega arith), ne_eqb k 9 (λ d. omega arith), ne_eqb k 10 (λ d. omega arith), ne_eqb k 11 (λ d. omega arith))

entry-holds : (k : ℕ) → k ≡ 9 → has k type_holders ≡ true
unfolding has
entry-holds k e = rw e

module _ {nodes : List ℕ} {p r : ℕ} (W : View nodes 0) (i : In nodes 0 p) where
  -- any item, up to its end
  pub types-whole : r ≡ (tree_of W).end p → TypesEnd W p r
  types-whole e = record {
    after = let h = past W i in omega arith;
    inside = omega arith;
    stays = λ j l h. onward-under (tree_of W) type_holders j h (λ _. ⊎_elim (λ (d : p ≡ j). let f = ap (tree_of W).end d in omega arith) (λ (d : p < j). let n = ends-within W i {q = j} d (omega arith) in omega arith) (eq-or-lt_of_le l));
    none = λ j l h. absurd (omega arith);
  }

  pub types-span : TypesEnd W p r → Span nodes 0 p r
  types-span T =
      let S = span_of W i refl in
      let s = S.start in
      let y = S.held in
      let u = S.under in
      let a = T.after in
      let e = T.inside in
      record { start = s; order = omega arith; held = omega arith; under = omega arith }

module _ {nodes : List ℕ} {p r : ℕ} (H : Head nodes 0 p r) where
  -- from the first statement on
  none-behind : (j : ℕ) → r ≤ j → j < (tree_of H.view).end p → has ((tree_of H.view).kind j) type ≡ false
  none-behind j l h =
      let W = H.view in
      let x = cover (statements_are W H.here H.positive (inr H.is_entry) H.first) j l h in
      let a = H.first.after in
      let x2 = x.2 in
      let c = x.1.inside in
      let f = x.1.from in
      ⊎_elim
      (λ (d : x.0 ≡ j). has-not _ 11 (λ n. let y = ap (tree_of W).kind d in omega arith))
      (λ (d : x.0 < j). let u = inside W (within W H.here {q = x.0} (omega arith) c) in let v = W.shown.high in no-type-below W.image W.shown.admitted x.0 j (omega arith) (omega arith) (no-holder _ f) d x.4)
      (eq-or-lt_of_le x.3)

  reached : (j : ℕ) → p < j → j < r → (tree_of H.view).end j ≤ r
  unfolding has
  reached j l h =
      let n = H.first.inside in
      let i = within H.view H.here {q = j} l (omega arith) in
      let m = until-on (until-head H 10 refl) l h (λ Y. end_is Y i) in
      let e = end_is H.view i in
      omega arith

  -- an entry, up to its first statement
  pub types-head : TypesEnd H.view p r
  types-head = record {
    after = H.first.after;
    inside = H.first.inside;
    stays = λ j l h.
        onward-under (tree_of H.view) type_holders j h
        (λ f. ⊎_elim (λ (d : p ≡ j). absurd (true≢false (sym (entry-holds _ (ap (tree_of H.view).kind (sym d) ∙ H.is_entry)) ∙ f))) (λ (d : p < j). reached j d h) (eq-or-lt_of_le l));
    none = none-behind;
  }
