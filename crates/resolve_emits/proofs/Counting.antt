-- How many arguments an Emit has, as a walk from child to child counts them.
use Prim.Native.Nat.{ℕ, suc, ◌+◌, ◌-◌, ◌<◌, ◌≤◌}
use mathlib.Core.Path.{◌≡◌, ap, ◌∙◌, sym}
use mathlib.Core.Bool.{Bool}
use mathlib.Core.List.{List}
use native.Mathlib.Nat.{sub_self}
use native.Mathlib.Omega.{arith}
use lib.ListN.{length, length-append}
use Rattle.image.specs.Admit.{nodes_of, node_count}
use Rattle.image.proofs.Children.{is_leaf, kid_is, leaf, emit-of}
use Rattle.rules.specs.Sweep.{run, keep}
use Rattle.rules.specs.Vocabulary.{alone, arguments, is_child}
use Rattle.rules.proofs.Reflect.{tells-is_child}
use Rattle.records.proofs.Sweep.{run_none, run_on, keep-none, keep_one}
use Rattle.nodes.specs.Shown.{View, In, tree_of}
use Rattle.nodes.proofs.Parts.{inside, formed, past}
use Rattle.nodes.proofs.Shapes.{ends-within}
use Rattle.resolve_emits.specs.Emitted.{IsKind}
use Rattle.nodes.proofs.ChildrenOf.{Reached, no-child, reached-on}

-- the numbers that pass a test
abbrev pub those : (ℕ → Bool) → ℕ → List ℕ
those b i = keep (b i) alone i

module _ {part : List ℕ} {b m : ℕ} (W : View part b) (i : In part b m) where
  pub at-node : m < node_count W.image
  at-node = let u = inside W i in let v = W.shown.high in omega arith

  -- the Name of an Emit, or of an event, is one node
  pub leaf_first : (tree_of W).kind (m + 1) ≡ 23 → m + 1 < (tree_of W).end m → (tree_of W).end (m + 1) ≡ m + 2
  leaf_first k l = let e = past W i in let g = W.shown.high in let z : m + 1 + 1 ≡ m + 2 = omega arith in leaf (nodes_of W.image) (node_count W.image) (formed W) (m + 1) (omega arith) (ap is_leaf k) ∙ z

  pub emit-long : (tree_of W).kind m ≡ 26 → m + 2 ≤ (tree_of W).end m
  emit-long k = let l = (emit-of (nodes_of W.image) (node_count W.image) (formed W) m at-node k).head.inside in omega arith

  emit-starts : (tree_of W).kind m ≡ 26 → Reached (tree_of W) m (m + 2)
  emit-starts k =
      let h = (emit-of (nodes_of W.image) (node_count W.image) (formed W) m at-node k).head in
      let z : Reached (tree_of W) m (m + 1) = λ q a g. absurd (omega arith) in
      rw (leaf_first (kid_is h) h.inside) at (reached-on W i (omega arith) h.inside z)

-- the arguments of the Emit m: the walk has come to p, and has counted n children
pub record Counting (nodes : List ℕ) (base m end n p : ℕ) : Type 0 where
  pub low : m + 2 ≤ p
  pub high : p ≤ end
  pub few : n ≤ p - (m + 2)
  pub reached : (W : View nodes base) → Reached (tree_of W) m p
  pub number : (W : View nodes base) → n ≡ length (run (those (is_child (tree_of W) m)) (m + 2) (p - (m + 2)))

module _ {nodes : List ℕ} {base m end : ℕ} (U : View nodes base) (I : IsKind nodes base m 26) (ends : (W : View nodes base) → end ≡ (tree_of W).end m) where
  pub counting-starts : Counting nodes base m end 0 (m + 2)
  counting-starts = record {
    low = omega arith;
    high = let l = emit-long U I.0 (I.1 U) in let e = ends U in omega arith;
    few = omega arith;
    reached = λ W. emit-starts W I.0 (I.1 W);
    number = λ W. sym (ap (λ (j : ℕ). length (run (those (is_child (tree_of W) m)) (m + 2) j)) (sub_self (m + 2)) ∙ ap length (run_none (those (is_child (tree_of W) m)) (m + 2)));
  }

  -- on to the end of the child at p
  pub counting-on : {n p q : ℕ} → Counting nodes base m end n p → p < end → ((W : View nodes base) → q ≡ (tree_of W).end p) → Counting nodes base m end (n + 1) q
  counting-on {n} {p} {q} C l f =
      let a = C.low in
      let g = C.few in
      let d = ends U in
      let x = ends-within U I.0 {q = p} (omega arith) (omega arith) in
      let y = f U in
      record {
        low = omega arith;
        high = omega arith;
        few = omega arith;
        reached = λ W. rw (f W) (reached-on W I.0 (omega arith) (let z = ends W in omega arith) (C.reached W));
        number = λ W.
            let t = tree_of W in
            ap (λ (j : ℕ). j + 1) (C.number W)
            ∙ sym
            (ap length (run_on (those (is_child t m)) (m + 2) p q a (omega arith) (λ j v w. keep-none alone j (no-child t m p j (omega arith) v (let u = f W in omega arith))))
            ∙ length-append (run (those (is_child t m)) (m + 2) (p - (m + 2))) (those (is_child t m) p)
            ∙ ap (λ (k : List ℕ). length (run (those (is_child t m)) (m + 2) (p - (m + 2))) + length k) (keep_one alone p ((tells-is_child t m p).back (C.reached W))));
      }

  pub counting-done : {n p : ℕ} → Counting nodes base m end n p → end ≤ p → (W : View nodes base) → n ≡ length (arguments (tree_of W) m alone)
  unfolding arguments
  counting-done {n} {p} C l W =
      let h = C.high in
      let x : p ≡ (tree_of W).end m = let z = ends W in omega arith in
      let y : m + 2 ≡ suc (suc m) = omega arith in
      C.number W ∙ ap (λ (j : ℕ). length (run (those (is_child (tree_of W) m)) (m + 2) (j - (m + 2)))) x
      ∙ ap (λ (j : ℕ). length (run (those (is_child (tree_of W) m)) j ((tree_of W).end m - j))) y
