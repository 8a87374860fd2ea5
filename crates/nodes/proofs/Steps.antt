-- Loops that go by a node's end: over the children of a node, and over the statements of a lent part, which stand one after another.
use Prim.Native.Nat.{ℕ, ◌+◌, ◌*◌, ◌-◌, ◌/◌, ◌<◌, ◌≤◌}
use mathlib.Core.Path.{◌≡◌, refl, ap}
use mathlib.Core.Bool.{true, false}
use mathlib.Core.List.{List}
use mathlib.Core.Logic.{◌⊎◌}
use native.Mathlib.Nat.{mul-le-mul_left}
use native.Mathlib.Omega.{arith}
use lib.ListN.{length}
use Rattle.image.specs.Admit.{nodes_of}
use Rattle.image.proofs.Row.{Kids, kids-next}
use Rattle.rules.specs.Sweep.{run, keep, has}
use Rattle.rules.specs.Standing.{all_items, parts}
use Rattle.rules.specs.Tree.{statement}
use Rattle.rules.specs.Vocabulary.{Rec, below}
use Rattle.rules.specs.All.{entry_of}
use Rattle.rules.proofs.Admitted.{no-part-below}
use Rattle.records.specs.Records.{Added}
use Rattle.records.proofs.Sweep.{Sweeping, sweep-starts, sweep-on, swept, run-below, keep-none}
use Rattle.nodes.specs.Shown.{View, Shown, In, tree_of}
use Rattle.nodes.specs.First.{Starts}
use Rattle.nodes.specs.Statements.{Statements}
use Rattle.nodes.proofs.Parts.{inside}
use Rattle.nodes.proofs.Spans.{Span, span_below, span-whole, upto_is, child-on}
use Rattle.nodes.proofs.Shapes.{all_in, not_in, within, skips-items, skips-parts}
use Rattle.nodes.proofs.Flat.{statement-in, statements_are}

-- the statements of an item of the contract, from the first one on
abbrev pub statements-of : {nodes part : List ℕ} {item first : ℕ} (W : View nodes 0) → In nodes 0 item → 0 < item → ((tree_of W).kind item ≡ 7) ⊎ ((tree_of W).kind item ≡ 9) → Starts W item first
    → Shown W.image part first ((tree_of W).end item) → Statements part first
statements-of {item = item} W i z k S P = record {
  view = record { image = W.image; upto = (tree_of W).end item; shown = P };
  item = item;
  positive = z;
  after = S.after;
  inside = omega arith;
  stand = statements_are W i z k S;
}

module _ {nodes : List ℕ} {base : ℕ} (T : Statements nodes base) where
  -- statements stand one after another from s on
  abbrev pub From : ℕ → Type 0
  From s = Kids (nodes_of T.view.image) 24 28 T.view.upto s

  pub record Step (s q : ℕ) : Type 0 where
    pub past : s < q
    pub inside : q ≤ T.view.upto
    pub rest : From q
    pub is : has ((tree_of T.view).kind s) statement ≡ true
    pub none : (j : ℕ) → s < j → j < q → has ((tree_of T.view).kind j) statement ≡ false

  module _ {s : ℕ} (i : In nodes base s) where
    -- a node of the part is one of the item
    pub below-item : (T.item < s) × (s < (tree_of T.view).end T.item)
    below-item = let a = T.after in let b = T.inside in let l = i.0 in let h = inside T.view i in (omega arith, omega arith)

    pub step : {q : ℕ} → From s → q ≡ (tree_of T.view).end s → Step s q
    unfolding all_in has
    step K e =
        let W = T.view in
        let h = inside W i in
        let k = kids-next K h in
        let x = k.0.past in
        let y = k.0.ends in
        let u = W.shown.low in
        let v = W.shown.high in
        let a = T.after in
        let b = below-item in
        record {
          past = omega arith;
          inside = omega arith;
          rest = rw e k.1;
          is = statement-in _ k.0.from k.0.to;
          none = λ j l g. not_in parts ((tree_of W).kind j) statement refl (no-part-below W.image W.shown.admitted T.item s j T.positive (omega arith) b.0 b.1 (omega arith) l (omega arith));
        }

-- the entries of the tree that x sees
abbrev pub in_tree : {X : Type 0} {nodes : List ℕ} {b : ℕ} → (X → View nodes b) → X → ℕ → ℕ
in_tree view x i = entry_of (tree_of (view x)) i

-- A loop over the nodes of kind ks in a range, by steps that leave none of them out: what each contributes, whichever x the nodes are seen by.
module _ {X : Type 0} {nodes : List ℕ} {b : ℕ} (view : X → View nodes b) (ks : List ℕ) (f : X → ℕ → List Rec) where
  abbrev pub at-kind : X → ℕ → List Rec
  at-kind x i = keep (has ((tree_of (view x)).kind i) ks) (f x) i

  -- with the entries that e gives; with those of the tree
  pub record Walk-by (e : X → ℕ → ℕ) (from to most : ℕ) (o₀ : List ℕ) (k₀ : ℕ) (o : List ℕ) (k p : ℕ) : Type 0 where
    pub span : Span nodes b from to
    pub sweep : Sweeping e at-kind from to most o₀ k₀ o k p

  abbrev pub Walk : (from to most : ℕ) (o₀ : List ℕ) (k₀ : ℕ) (o : List ℕ) (k p : ℕ) → Type 0
  Walk = Walk-by (in_tree view)

module _ {X : Type 0} {nodes : List ℕ} {b : ℕ} {view : X → View nodes b} {ks : List ℕ} {f : X → ℕ → List Rec} {e : X → ℕ → ℕ} {from to most : ℕ} {o₀ : List ℕ} {k₀ : ℕ} where
  pub walk-starts : Span nodes b from to → Walk-by view ks f e from to most o₀ k₀ o₀ k₀ from
  walk-starts S = record { span = S; sweep = sweep-starts S.order }

  pub walk-on : {o o' : List ℕ} {k k' p q : ℕ} → Walk-by view ks f e from to most o₀ k₀ o k p → Added e (λ x. at-kind view ks f x p) most o k o' k' → (p < q) × (q ≤ to)
      → ((x : X) (j : ℕ) → p < j → j < q → has ((tree_of (view x)).kind j) ks ≡ false) → Walk-by view ks f e from to most o₀ k₀ o' k' q
  walk-on w a m z = record { span = w.span; sweep = sweep-on w.sweep a m.0 m.1 (λ x j l h. keep-none (f x) j (z x j l h)) }

  -- all of it
  pub walk-all : {L : X → List Rec} {o : List ℕ} {k p : ℕ} → Walk-by view ks f e from to most o₀ k₀ o k p → to ≤ p → ((x : X) → run (at-kind view ks f x) from (to - from) ≡ L x) → Added e L (most * 2048) o₀ k₀ o k
  walk-all w h q = swept w.sweep h q (mul-le-mul_left most (let u = w.span.under in omega arith))

-- the nodes below a
module _ (a : ℕ) {X : Type 0} {nodes : List ℕ} {b : ℕ} {view : X → View nodes b} {ks : List ℕ} {f : X → ℕ → List Rec} {e : X → ℕ → ℕ} {to most : ℕ} {o₀ : List ℕ} {k₀ : ℕ} where
  pub below-starts : X → In nodes b a → ((W : View nodes b) → to ≡ (tree_of W).end a) → Walk-by view ks f e (a + 1) to most o₀ k₀ o₀ k₀ (a + 1)
  below-starts x i d = walk-starts (span_below (view x) i (d (view x)))

  pub below-moves : {o : List ℕ} {k p q : ℕ} → X → In nodes b a → ((W : View nodes b) → to ≡ (tree_of W).end a) → Walk-by view ks f e (a + 1) to most o₀ k₀ o k p → p < to → ((W : View nodes b) → q ≡ (tree_of W).end p) → (p < q) × (q ≤ to)
  below-moves x i n w h d = child-on (view x) i (n (view x)) (let l = w.sweep.low in omega arith) h (d (view x))

  pub below-done : {o : List ℕ} {k p : ℕ} → Walk-by view ks f e (a + 1) to most o₀ k₀ o k p → to ≤ p → ((W : View nodes b) → to ≡ (tree_of W).end a) → Added e (λ x. below (tree_of (view x)) ks a (f x)) (most * 2048) o₀ k₀ o k
  below-done w h n = walk-all w h (λ x. run-below (tree_of (view x)) ks (f x) a (a + 1) to refl (n (view x)))

  -- on to the next child of an item: no part of it is left out
  pub parts-on : {o o' : List ℕ} {k k' p q : ℕ} → all_in ks parts ≡ true → X → In nodes b a → 0 < a → ((W : View nodes b) → to ≡ (tree_of W).end a) → Walk-by view ks f e (a + 1) to most o₀ k₀ o k p → p < to → ((W : View nodes b) → q ≡ (tree_of W).end p)
      → Added e (λ x. at-kind view ks f x p) most o k o' k' → Walk-by view ks f e (a + 1) to most o₀ k₀ o' k' q
  parts-on al x i z m w h d n = walk-on w n (below-moves x i m w h d) (λ y. let l = w.sweep.low in let u = m (view y) in skips-parts ks al (view y) i z (omega arith) (omega arith) (d (view y)))

-- on to the next item of the contract: none is left out
pub items-on : {X : Type 0} {nodes : List ℕ} {b : ℕ} {view : X → View nodes b} {ks : List ℕ} {f : X → ℕ → List Rec} {e : X → ℕ → ℕ} {to most : ℕ} {o₀ o o' : List ℕ} {k₀ k k' p q : ℕ} → all_in ks all_items ≡ true → X → In nodes b 0 → ((W : View nodes b) → to ≡ (tree_of W).end 0)
    → Walk-by view ks f e 1 to most o₀ k₀ o k p → p < to → ((W : View nodes b) → q ≡ (tree_of W).end p) → Added e (λ x. at-kind view ks f x p) most o k o' k' → Walk-by view ks f e 1 to most o₀ k₀ o' k' q
items-on {view = view} {ks = ks} al x i m w h d n = walk-on w n (below-moves 0 x i m w h d) (λ y. let l = w.sweep.low in let u = m (view y) in skips-items ks al (view y) (within (view y) i l (omega arith)) l (d (view y)))

-- A loop over the statements of a lent part.
module _ {X : Type 0} {nodes : List ℕ} {base : ℕ} (body : X → Statements nodes base) (ks : List ℕ) (f : X → ℕ → List Rec) (e : X → ℕ → ℕ) where
  pub record Stepping (most : ℕ) (o₀ : List ℕ) (k₀ : ℕ) (o : List ℕ) (k s : ℕ) : Type 0 where
    pub walk : Walk-by (λ x. (body x).view) ks f e base (base + length nodes / 16) most o₀ k₀ o k s
    pub rest : (x : X) → From (body x) s

module _ {X : Type 0} {nodes : List ℕ} {base : ℕ} {body : X → Statements nodes base} {ks : List ℕ} {f : X → ℕ → List Rec} {e : X → ℕ → ℕ} {most : ℕ} {o₀ : List ℕ} {k₀ : ℕ} where
  pub steps-start : X → Stepping body ks f e most o₀ k₀ o₀ k₀ base
  steps-start x = let W = (body x).view in record { walk = walk-starts (span-whole W (upto_is W)); rest = λ y. (body y).stand }

  pub step-at : {o : List ℕ} {k s q : ℕ} → Stepping body ks f e most o₀ k₀ o k s → In nodes base s → ((W : View nodes base) → q ≡ (tree_of W).end s) → (x : X) → Step (body x) s q
  step-at w i d x = step (body x) i (w.rest x) (d (body x).view)

  pub steps_on : {o o' : List ℕ} {k k' s q : ℕ} → all_in ks statement ≡ true → X → Stepping body ks f e most o₀ k₀ o k s → In nodes base s → ((W : View nodes base) → q ≡ (tree_of W).end s) → Added e (λ x. at-kind (λ x. (body x).view) ks f x s) most o k o' k'
      → Stepping body ks f e most o₀ k₀ o' k' q
  steps_on al x w i d a =
      let n = step-at w i d x in
      let u = upto_is (body x).view in
      let h = n.inside in
      record {
        walk = walk-on w.walk a (n.past, omega arith) (λ y j l g. not_in statement _ ks al ((step-at w i d y).none j l g));
        rest = λ y. (step-at w i d y).rest;
      }

  pub steps-done : {o : List ℕ} {k s : ℕ} → Stepping body ks f e most o₀ k₀ o k s → base + length nodes / 16 ≤ s → Added e (λ x. run (at-kind (λ x. (body x).view) ks f x) base ((body x).view.upto - base)) (most * 2048) o₀ k₀ o k
  steps-done w h = walk-all w.walk h (λ x. ap (λ (u : ℕ). run (at-kind (λ x. (body x).view) ks f x) base (u - base)) (upto_is (body x).view))
