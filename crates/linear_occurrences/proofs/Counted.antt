-- What the statements of an entry take, node by node, is what its Calls and Assigns consume.
use Prim.Native.Nat.{ℕ, ◌-◌, ◌<◌, ◌≤◌}
use mathlib.Core.Path.{◌≡◌, refl, ap, ◌∙◌, sym, subst}
use mathlib.Core.Bool.{Bool, true, false, true≢false}
use mathlib.Core.List.Memᴰ
use mathlib.Core.List.{List, Memᴰ}
use mathlib.Core.Logic.{inl, inr, ⊎_elim}
use native.Mathlib.Omega.{arith}
use borrow.Author.Tests.{ltb-true, ltb-false}
use lib.Dec.{ltb}
use Rattle.image.specs.Admit.{node_count, nodes_of}
use Rattle.rules.specs.Tree.{Tree, call, statement, ident, peels}
use Rattle.rules.specs.Vocabulary.{Rec, rec, only, Below, CallIn, Down}
use Rattle.rules.specs.Linear.{Consumes}
use Rattle.rules.proofs.Reflect.{Finds, narrow, tells-has, finds-only, finds-keep, finds-run, finds-calls}
use Rattle.nodes.specs.Shown.{View, In, tree_of}
use Rattle.nodes.specs.First.{Starts}
use Rattle.nodes.proofs.Parts.{whole, there}
use Rattle.nodes.proofs.Shapes.{ends-within}
use Rattle.nodes.proofs.Fall.{not_so}
use Rattle.nodes.proofs.Flat.{flat-calls}
use Rattle.linear_occurrences.specs.Counted.{Counting, takes_node}
use Rattle.linear_occurrences.proofs.Taken.{tells-takes, takes-after}

module _ {nodes : List ℕ} {base : ℕ} {reader : List Bool} (T : Counting nodes base reader) where
  abbrev t : Tree
  t = tree_of T.view

  -- the entry in the whole image
  abbrev W : View (nodes_of T.view.image) 0
  W = record { image = T.view.image; upto = node_count T.view.image; shown = whole T.view.image T.view.shown.admitted }

  at_entry : In (nodes_of T.view.image) 0 T.entry
  at_entry = let a = T.first.after in let l = T.view.shown.low in let h = T.view.shown.high in there W (omega arith) (omega arith)

  starts : Starts W T.entry base
  starts = let S = T.first in record { after = S.after; inside = S.inside; none = S.none; is = S.is }

  -- a Call from the first statement on is one of a statement
  call-in : (c : ℕ) → base ≤ c → c < T.view.upto → Memᴰ (t.kind c) call → CallIn t T.entry c
  call-in c l h k =
      let e = T.ends in
      let m = (finds-run base (t.end T.entry - base) (λ c. finds-keep g c (tells-has (t.kind c) call) (mine c))).back (rec 0 c 0) (c, l, omega arith, (k, (refl, refl))) in
      let q = (finds-calls t T.entry mine).so (rec 0 c 0) (subst (Memᴰ (rec 0 c 0)) (flat-calls W at_entry T.after (inr T.is_entry) starts g) m) in
      subst (CallIn t T.entry) (sym (ap (λ (r : Rec). r.place) q.2.0)) q.1
    where
      g : ℕ → List Rec
      g c = only true (rec 0 c 0)

      mine : (c : ℕ) → Finds (g c) (λ r. (r ≡ rec 0 c 0) × (true ≡ true))
      mine c = finds-only (rec 0 c 0) (record { so = λ e. e; back = λ e. e })

  -- no statement of the entry stands before the first
  not-before : (s : ℕ) → Below t statement T.entry s → base ≤ s
  not-before s B = go (ltb s base) refl
    where
      go : (x : Bool) → ltb s base ≡ x → base ≤ s
      go false e = ltb-false s base e
      go true e = absurd (true≢false (sym ((tells-has (t.kind s) statement).back B.kind) ∙ T.first.none s B.after (ltb-true s base e)))

  -- no node takes one that does not stand after it, or that is not in the part
  pub untaken : (i p : ℕ) → base ≤ p → p < T.view.upto → ((p < i) × (i < T.view.upto) → ⊥) → takes_node t i p ≡ false
  untaken i p l h n = not_so (takes_node t i p) (λ e. n (takes-after T.view (there T.view l h) i ((tells-takes t i p).so e)))

  -- a node of the part that takes an Ident consumes it, and no other node does
  pub takes-consumes : (p i : ℕ) → base ≤ p → p < T.view.upto → takes_node t i p ≡ true → Below t ident T.entry i → Consumes t T.entry p i
  takes-consumes p i l h d b =
      let a = T.first.after in
      let e = T.ends in (
        b,
        ⊎_elim
            (λ q. inl (record { after = omega arith; inside = omega arith; kind = q.0 }, q.1))
            (λ q. inr (call-in p l h q.0, q.1.0, (q.1.1.0, q.1.1.1, subst (λ (j : ℕ). Down t peels q.1.1.0 j) q.1.1.2.2 q.1.1.2.1)))
            ((tells-takes t i p).so d),
      )

  pub consumes-takes : (p i : ℕ) → Consumes t T.entry p i → (base ≤ p) × (p < T.view.upto) × (takes_node t i p ≡ true)
  consumes-takes p i C =
      let e = T.ends in
      ⊎_elim
      (λ q.
      let B = q.0 in
      let h = B.inside in
      let l = not-before p (narrow B (Memᴰ.tail (Memᴰ.tail (Memᴰ.tail (Memᴰ.head (Memᴰ.eq_of_singleton B.kind)))))) in
      (l, omega arith, (tells-takes t i p).back (inl (B.kind, q.1))))
      (λ q.
      let S = q.0.1 in
      let B = q.0.2 in
      let l = not-before q.0.0 S in
      let a = B.after in
      let h = B.inside in
      let n = (ends-within W at_entry S.after S.inside).1 in
      (omega arith, omega arith, (tells-takes t i p).back (inr (B.kind, (q.1, (q.2.0, q.2.1, (i, q.2.2, refl)))))))
      C.1
