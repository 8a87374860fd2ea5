-- A walk over the children of a node that ends before the node does, where no more parts of the kind that it is after stand: it is one over all of them.
use Prim.Native.Nat.{ℕ, ◌+◌, ◌-◌, ◌<◌, ◌≤◌}
use mathlib.Core.Path.{◌≡◌, refl, ap, ◌∙◌, sym}
use mathlib.Core.Bool.{Bool, true, false}
use mathlib.Core.List.{List, [], ◌∷◌}
use native.Mathlib.Omega.{arith}
use Rattle.rules.specs.Sweep.{also, has}
use Rattle.rules.specs.Standing.{parts}
use Rattle.nodes.specs.Shown.{View, In, tree_of}
use Rattle.nodes.specs.First.{Until}
use Rattle.nodes.specs.Table.{Changed, folded}
use Rattle.nodes.proofs.Names.{marks-as}
use Rattle.nodes.proofs.Parts.{kind-is, end_is, past}
use Rattle.nodes.proofs.Shapes.{one_in, skips-parts, within, ends-within}
use Rattle.nodes.proofs.Spans.{Span, span_below}
use Rattle.nodes.proofs.Folding.{folded-still, folding-starts, folding-on}
use Rattle.nodes.proofs.Walking.{Walked, at-kind}

-- to the end of the node
pub until_end : {part : List ℕ} {b e to : ℕ} (k : ℕ) (W : View part b) → In part b e → 0 < e → to ≡ (tree_of W).end e → Until part b e to k
until_end {e = e} k W i z d = record {
  view = W;
  here = i;
  positive = z;
  after = let h = past W i in omega arith;
  inside = omega arith;
  reached = λ p l h. let n = ends-within W i {q = p} l (omega arith) in omega arith;
  rest = λ j l h. absurd (omega arith);
}

module _ {part : List ℕ} {b e to k : ℕ} (N : Until part b e to k) where
  -- the node's end is one, whichever image the part is seen by
  pub one_end : (W : View part b) → (tree_of N.view).end e ≡ (tree_of W).end e
  one_end W = sym (end_is N.view N.here) ∙ end_is W N.here

  pub until-span : Span part b (e + 1) to
  until-span =
      let S = span_below N.view N.here refl in
      let s = S.start in
      let y = S.held in
      let u = S.under in
      let a = N.after in
      let i = N.inside in
      record { start = s; order = omega arith; held = omega arith; under = omega arith }

  -- none stands behind it
  pub until-rest : (W : View part b) (j : ℕ) → to ≤ j → j < (tree_of N.view).end e → has ((tree_of W).kind j) (k ∷ []) ≡ false
  until-rest W j l h =
      let a = N.after in
      let i = within N.view N.here {q = j} (omega arith) h in
      ap (λ (x : ℕ). has x (k ∷ [])) (sym (kind-is W i) ∙ kind-is N.view i) ∙ N.rest j l h

  -- on to the next child: it is not passed over, and neither is a part
  module _ {p q : ℕ} (l : e < p) (h : p < to) (f : (W : View part b) → q ≡ (tree_of W).end p) where
    pub until-on : (p < q) × (q ≤ to)
    until-on =
        let d = f N.view in
        let i = N.inside in
        let n = ends-within N.view N.here {q = p} l (omega arith) in
        let r = N.reached p l h in
        (omega arith, omega arith)

    pub until-skips : has k parts ≡ true → (W : View part b) (j : ℕ) → p < j → j < q → has ((tree_of W).kind j) (k ∷ []) ≡ false
    until-skips a W = let d = one_end W in let i = N.inside in skips-parts (k ∷ []) (one_in k parts a) W N.here N.positive l (omega arith) (f W)

-- a walk that changes a table
module _ {A B : Type 0} {d : A} {step : B → A → Bool → ℕ → A} {b : B} {X : Type 0} {part : List ℕ} {base : ℕ} {view : X → View part base} {k : ℕ} {G : X → List ℕ → ℕ → Bool} {a to : ℕ} (N : Until part base a to k) where
  pub until-starts : {r : List A} → ((v : A) (i : ℕ) → step b v false i ≡ v) → Walked d step b view (k ∷ []) G a to r r (a + 1)
  until-starts h = record { span = until-span N; fold = folding-starts h (until-span N).order }

  module _ {r₀ r : List A} {p : ℕ} (m : Walked d step b view (k ∷ []) G a to r₀ r p) where
    pub until-moves : {q : ℕ} → p < to → ((W : View part base) → q ≡ (tree_of W).end p) → (p < q) × (q ≤ to)
    until-moves l f = let g = m.fold.low in until-on N (omega arith) l f

    pub until-walks : has k parts ≡ true → {q : ℕ} → p < to → ((W : View part base) → q ≡ (tree_of W).end p) → {r' : List A} → Changed d (λ x. (view x).image) (λ x w v. step b v (at-kind d step b view (k ∷ []) G x w p) p) r r'
        → Walked d step b view (k ∷ []) G a to r₀ r' q
    until-walks h l f n =
        let g = m.fold.low in
        let v = until-moves l f in
        record { span = m.span; fold = folding-on m.fold n v.0 v.1 (λ y w j g c. ap (λ (t : Bool). also t (G y w) j) (until-skips N (omega arith) l f h (view y) j g c)) }

    pub until-done : to ≤ p → Walked d step b view (k ∷ []) G a ((tree_of N.view).end a) r₀ r ((tree_of N.view).end a)
    until-done l =
        let S = span_below N.view N.here refl in
        let o = S.order in
        let h = m.fold.high in
        let i = N.inside in
        let u = (tree_of N.view).end a in
        record {
          span = S;
          fold = record {
            keeps = m.fold.keeps;
            low = omega arith;
            high = omega arith;
            changed = λ x F T.
                marks-as
                (λ w.
                let z : p + (u - p) ≡ u = omega arith in
                let f : ℕ → A → A = λ i v. step b v (at-kind d step b view (k ∷ []) G x w i) i in
                sym
                (ap (λ (j : ℕ). folded f (F w) (a + 1) (j - (a + 1))) (sym z)
                ∙ folded-still f (F w) (a + 1) p (u - p) m.fold.low (λ j c n v. ap (λ (t : Bool). step b v (also t (G x w) j) j) (until-rest N (view x) j (omega arith) (omega arith)) ∙ m.fold.keeps v j)))
                (m.fold.changed x F T);
          };
        }
