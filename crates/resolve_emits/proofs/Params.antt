-- How many parameters an event has: each is one node.
use Prim.Native.Nat.{ℕ, zero, suc, ◌+◌, ◌-◌, ◌<◌, ◌≤◌}
use mathlib.Core.Path.{◌≡◌, refl, ap, ◌∙◌, sym}
use mathlib.Core.Bool.{Bool, true, false}
use mathlib.Core.List.{List}
use mathlib.Core.Logic.{⊎_elim}
use native.Mathlib.Nat.{eq-or-lt_of_le}
use native.Mathlib.Omega.{arith}
use lib.ListN.{length, length-append}
use Rattle.image.specs.Node.{kind_of}
use Rattle.image.specs.Admit.{nodes_of, node_count}
use Rattle.image.specs.Forms.{FormsTree}
use Rattle.image.proofs.Row.{Kids, none, some}
use Rattle.image.proofs.Children.{Headed, is_leaf, kid_is, leaf, event-of}
use Rattle.rules.specs.Sweep.{run, keep, has}
use Rattle.rules.specs.Tree.{event_param}
use Rattle.rules.specs.Vocabulary.{alone, below}
use Rattle.records.proofs.Sweep.{run-later, keep-none, keep_one, has_one, has-not}
use Rattle.nodes.specs.Shown.{View, In, tree_of}
use Rattle.nodes.proofs.Parts.{formed, past}
use Rattle.resolve_emits.proofs.Counting.{those, at-node, leaf_first}

run-all : (b : ℕ → Bool) (a n : ℕ) → ((j : ℕ) → a ≤ j → j < a + n → b j ≡ true) → length (run (those b) a n) ≡ n
unfolding run
run-all b a zero f = refl
run-all b a (suc n) f =
    let i = run-all b a n (λ j l h. f j l (omega arith)) in
    length-append (run (those b) a n) (keep (b (a + n)) alone (a + n)) ∙ rw (keep_one alone (a + n) (f (a + n) (omega arith) (omega arith))) (omega arith)

-- the parameters of the event v
all_params : {s : List ℕ} {n mid at : ℕ} → FormsTree s n → mid ≤ n → Kids s 6 6 mid at → (j : ℕ) → at ≤ j → j < mid → kind_of s j ≡ 6
all_params F h (none e) j l g = absurd (omega arith)
all_params {s} {n} F h (some {at} c r) j l g =
    ⊎_elim
    (λ (e : at ≡ j). ap (kind_of s) (sym e) ∙ kid_is c)
    (λ (k : at < j). let i = c.inside in let e = leaf s n F at (omega arith) (ap is_leaf (kid_is c)) in all_params F h r j (omega arith) g)
    (eq-or-lt_of_le l)

module _ {part : List ℕ} {b v : ℕ} (W : View part b) (i : In part b v) (k : (tree_of W).kind v ≡ 5) where
  headed : Headed (nodes_of W.image) 23 23 6 6 v
  headed = event-of (nodes_of W.image) (node_count W.image) (formed W) v (at-node W i) k

  pub event-long : v + 2 ≤ (tree_of W).end v
  event-long = let l = headed.head.inside in omega arith

  abbrev param : ℕ → Bool
  param j = has ((tree_of W).kind j) event_param

  param-there : (j : ℕ) → v + 2 ≤ j → j < (tree_of W).end v → param j ≡ true
  param-there j l h =
      let e = past W i in
      let g = W.shown.high in
      let d = leaf_first W i (kid_is headed.head) headed.head.inside in
      has_one _ 6 (all_params (formed W) (omega arith) headed.others j (omega arith) h)

  pub parameters-are : (tree_of W).end v - (v + 2) ≡ length (below (tree_of W) event_param v alone)
  unfolding below
  parameters-are =
      let l = event-long in
      let x : suc v ≡ v + 1 = omega arith in
      sym
      (ap (λ (j : ℕ). length (run (those param) j ((tree_of W).end v - j))) x
      ∙ ap length (run-later (those param) (v + 1) (v + 2) ((tree_of W).end v) (omega arith) l (λ j g h. keep-none alone j (front j (omega arith))))
      ∙ run-all param (v + 2) ((tree_of W).end v - (v + 2)) (λ j g h. param-there j g (omega arith)))
    where
      front : (j : ℕ) → j ≡ v + 1 → param j ≡ false
      front j d = let e : (tree_of W).kind j ≡ 23 = ap (tree_of W).kind d ∙ kid_is headed.head in has-not _ 6 (λ z. other e z)
        where
          other : {k : ℕ} → k ≡ 23 → k ≡ 6 → ⊥
          other a c = omega arith
