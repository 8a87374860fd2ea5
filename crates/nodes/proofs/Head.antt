-- The head of an entry, before its first statement: its parameters and clauses all stand there.
use Prim.Native.Nat.{ℕ, ◌+◌, ◌*◌, ◌-◌, ◌<◌, ◌≤◌}
use mathlib.Core.Path.{◌≡◌, refl, ◌∙◌, sym, ap}
use mathlib.Core.Bool.{Bool, true, false, true≢false}
use mathlib.Core.List.{List, [], ◌∷◌}
use mathlib.Core.Logic.{inr, ⊎_elim}
use native.Mathlib.Nat.{eq-or-lt_of_le}
use native.Mathlib.Omega.{arith}
use borrow.Author.Tests.{ne_eqb}
use Rattle.image.proofs.Decide.{lt-or-ge}
use Rattle.rules.specs.Sweep.{has}
use Rattle.rules.specs.Standing.{parts}
use Rattle.rules.specs.Tree.{statement}
use Rattle.rules.specs.Vocabulary.{Rec, below}
use Rattle.records.specs.Records.{Added}
use Rattle.records.proofs.Sweep.{run-sooner, run-below, keep-none}
use Rattle.nodes.specs.Shown.{View, In, tree_of}
use Rattle.nodes.specs.First.{heads, Starts, Head, Until}
use Rattle.nodes.proofs.Parts.{kind-is, end_is}
use Rattle.nodes.proofs.Shapes.{all_in, not_in, one_in, no_part, within, ends-within, skips-parts}
use Rattle.nodes.proofs.Flat.{cover, no-statement, statements_are}
use Rattle.nodes.proofs.Steps.{Walk, in_tree, at-kind, walk-starts, walk-on, walk-all}
use Rattle.nodes.proofs.Until.{until-span, until-on}

-- no statement, whose kind is 24 to 28, is a parameter or a clause
no-head : (k : ℕ) → 24 ≤ k → has k heads ≡ false
unfolding has
no-head k l =
    simp (
      ne_eqb k 10 (λ d. omega arith),
      ne_eqb k 14 (λ d. omega arith),
      ne_eqb k 15 (λ d. omega arith),
      ne_eqb k 16 (λ d. omega arith),
      ne_eqb k 17 (λ d. omega arith),
      ne_eqb k 18 (λ d. omega arith),
      ne_eqb k 19 (λ d. omega arith),
      ne_eqb k 20 (λ d. omega arith),
      ne_eqb k 21 (λ d. omega arith),
    )

-- an entry's head, from what was read of the entry
abbrev pub head-at : {part : List ℕ} {b e to k : ℕ} (W : View part b) → In part b e → 0 < e → ((W : View part b) → k ≡ (tree_of W).kind e) → k ≡ 9 → ((W : View part b) → Starts W e to) → Head part b e to
head-at W i z f k s = record { view = W; here = i; positive = z; is_entry = sym (f W) ∙ k; first = s W }

no-part-head : (k : ℕ) → has k parts ≡ false → has k heads ≡ false
unfolding all_in has
no-part-head k e = not_in parts k heads refl e

module _ {part : List ℕ} {b e to : ℕ} (H : Head part b e to) where
  -- a statement stands below no other child, so the first one is not passed over
  reached : (p : ℕ) → e < p → p < to → (tree_of H.view).end p ≤ to
  reached p l h =
      let i = H.first.inside in
      let n = ends-within H.view H.here {q = p} l (omega arith) in
      ⊎_elim
      (λ (g : to < (tree_of H.view).end p). absurd (true≢false (sym (H.first.is (omega arith)) ∙ no-statement _ (no_part H.view H.here H.positive l (omega arith) to h g))))
      (λ (g : (tree_of H.view).end p ≤ to). g)
      (lt-or-ge to ((tree_of H.view).end p))

  -- behind it stand statements, and what stands below them
  rest : (j : ℕ) → to ≤ j → j < (tree_of H.view).end e → has ((tree_of H.view).kind j) heads ≡ false
  rest j l h =
      let x = cover (statements_are H.view H.here H.positive (inr H.is_entry) H.first) j l h in
      let a = H.first.after in
      let x2 = x.2 in
      let c = x.1.inside in
      let f = x.1.from in
      ⊎_elim
      (λ (d : x.0 ≡ j). no-head _ (let y = ap (tree_of H.view).kind d in omega arith))
      (λ (d : x.0 < j). no-part-head _ (no_part H.view {p = x.0} H.here H.positive (omega arith) (omega arith) j d x.4))
      (eq-or-lt_of_le x.3)

  pub until-head : (k : ℕ) → has k heads ≡ true → Until part b e to k
  until-head k h = record {
    view = H.view;
    here = H.here;
    positive = H.positive;
    after = H.first.after;
    inside = H.first.inside;
    reached = reached;
    rest = λ j l g. not_in heads _ (k ∷ []) (one_in k heads h) (rest j l g);
  }

-- they are parts of the entry
pub head-part : (k : ℕ) → has k heads ≡ true → has k parts ≡ true
head-part k h = in-or (has k parts) refl
  where
    in-or : (x : Bool) → has k parts ≡ x → has k parts ≡ true
    in-or true e = e
    in-or false e = absurd (true≢false (sym h ∙ no-part-head k e))

nearer : {p q to : ℕ} → (p < q) × (q ≤ to) → to - q < to - p
nearer m = let l = m.0 in let h = m.1 in omega arith

-- A walk over the head that adds records, by the nodes of kinds that stand there alone: it is one over all of the entry.
module _ {part : List ℕ} {b e to : ℕ} (H : Head part b e to) where
  ends : Until part b e to 10
  unfolding has
  ends = until-head H 10 refl

  same_end : (W : View part b) → (tree_of H.view).end e ≡ (tree_of W).end e
  same_end W = sym (end_is H.view H.here) ∙ end_is W H.here

  pub head-is : (W : View part b) → (tree_of W).kind e ≡ 9
  head-is W = sym (kind-is W H.here) ∙ kind-is H.view H.here ∙ H.is_entry

  alike : (W : View part b) (i : ℕ) → e < i → i < (tree_of W).end e → (tree_of W).kind i ≡ (tree_of H.view).kind i
  alike W i l h = let j = within W H.here {q = i} l h in sym (kind-is W j) ∙ kind-is H.view j

  pub head_first : (W : View part b) → Starts W e to
  head_first W =
      let d = same_end W in
      let s = H.first.inside in
      let a = H.first.after in
      record {
        after = a;
        inside = omega arith;
        none = λ i l h. ap (λ (x : ℕ). has x statement) (alike W i l (omega arith)) ∙ H.first.none i l h;
        is = λ h. ap (λ (x : ℕ). has x statement) (alike W to a h) ∙ H.first.is (omega arith);
      }

  pub head-end : (W : View part b) → to ≤ (tree_of W).end e
  head-end W = let d = same_end W in let i = H.first.inside in omega arith

  behind : (W : View part b) (j : ℕ) → to ≤ j → j < (tree_of W).end e → has ((tree_of W).kind j) heads ≡ false
  behind W j l h =
      let a = H.first.after in
      let d = same_end W in
      let i = within W H.here {q = j} (omega arith) h in
      ap (λ (x : ℕ). has x heads) (sym (kind-is W i) ∙ kind-is H.view i) ∙ rest H j l (omega arith)

  module _ {X : Type 0} {view : X → View part b} {ks : List ℕ} {f : X → ℕ → List Rec} {most : ℕ} {o₀ : List ℕ} {k₀ : ℕ} where
    pub head-starts : Walk view ks f (e + 1) to most o₀ k₀ o₀ k₀ (e + 1)
    head-starts = walk-starts (until-span ends)

    module _ {o : List ℕ} {k p : ℕ} (w : Walk view ks f (e + 1) to most o₀ k₀ o k p) where
      pub head-moves : {q : ℕ} → p < to → ((W : View part b) → q ≡ (tree_of W).end p) → (p < q) × (q ≤ to)
      head-moves h d = let l = w.sweep.low in until-on ends (omega arith) h d

      pub head-less : {q : ℕ} → p < to → ((W : View part b) → q ≡ (tree_of W).end p) → to - q < to - p
      head-less h d = nearer (head-moves h d)

      pub head-skips : all_in ks parts ≡ true → {q : ℕ} → p < to → ((W : View part b) → q ≡ (tree_of W).end p) → (W : View part b) (j : ℕ) → p < j → j < q → has ((tree_of W).kind j) ks ≡ false
      head-skips al h d W = let l = w.sweep.low in let i = H.first.inside in let u = same_end W in skips-parts ks al W H.here H.positive (omega arith) (omega arith) (d W)

      pub head-on : all_in ks parts ≡ true → {q : ℕ} → p < to → ((W : View part b) → q ≡ (tree_of W).end p) → {o' : List ℕ} {k' : ℕ} → Added (in_tree view) (λ x. at-kind view ks f x p) most o k o' k' → Walk view ks f (e + 1) to most o₀ k₀ o' k' q
      head-on al h d n = walk-on w n (head-moves h d) (λ y. head-skips al h d (view y))

      pub head_done : all_in ks heads ≡ true → to ≤ p → Added (in_tree view) (λ x. below (tree_of (view x)) ks e (f x)) (most * 2048) o₀ k₀ o k
      head_done al h =
          walk-all w h
          (λ x.
          let a = H.first.after in
          let i = H.first.inside in
          let u = same_end (view x) in
          sym (run-sooner (at-kind view ks f x) (e + 1) to ((tree_of (view x)).end e) (omega arith) (omega arith) (λ j l g. keep-none (f x) j (not_in heads _ ks al (behind (view x) j l g))))
          ∙ run-below (tree_of (view x)) ks (f x) e (e + 1) ((tree_of (view x)).end e) refl refl)
