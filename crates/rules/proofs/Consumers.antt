-- E5 of document 02: an Ident has at most one consumer. Whatever stands between a consumer and its Ident, and holds the Ident, is a
-- Checked or a Wrapping; no consumer is one of these.
use Prim.Native.Nat.{ℕ, ◌+◌, ◌<◌, ◌≤◌}
use mathlib.Core.Path.{◌≡◌, refl, ap}
use mathlib.Core.List.Memᴰ
use mathlib.Core.List.{List, [], ◌∷◌, Memᴰ}
use mathlib.Core.Logic.{◌⊎◌, inl, inr, ⊎_elim}
use native.Mathlib.Omega.{arith}
use Rattle.image.specs.Digits.{part_at, row_of}
use Rattle.image.specs.Admit.{refusal, nodes_of, node_count}
use Rattle.image.proofs.Decide.{eq-or-ne, lt-or-ge}
use Rattle.image.proofs.Shape.{two}
use Rattle.image.proofs.Given.{given}
use Rattle.rules.specs.Tree.{Tree, tree, entry, peels}
use Rattle.rules.specs.Vocabulary.{Below, Argument, Down}
use Rattle.rules.specs.Linear.{Consumes}
use Rattle.rules.proofs.Admitted.{admitted}

-- c, an Assign (27) or a Call (43), holds i, and so does no node between them that is not peeled
record Over (t : Tree) (c i : ℕ) : Type 0 where
  kind : (t.kind c ≡ 27) ⊎ (t.kind c ≡ 43)
  after : c < i
  inside : i < t.end c
  between : (d : ℕ) → c < d → d < i → i < t.end d → Memᴰ (t.kind d) peels

not-peeled : (k : ℕ) → (k ≡ 27) ⊎ (k ≡ 43) → Memᴰ k peels → ⊥
not-peeled k n m = ⊎_elim (λ (e : k ≡ 44). other (omega arith)) (λ (l : Memᴰ k (45 ∷ [])). let e = Memᴰ.eq_of_singleton l in other (omega arith)) (Memᴰ.cases_cons m)
  where
    other : 43 < k → ⊥
    other l = ⊎_elim (λ (f : k ≡ 27). omega arith) (λ (f : k ≡ 43). omega arith) n

not-above : (t : Tree) (c d i : ℕ) → Over t c i → Over t d i → c < d → ⊥
not-above t c d i C D l = not-peeled (t.kind d) D.kind (C.between d l D.after D.inside)

module _ (s : List ℕ) (a : refusal s ≡ 0) where
  abbrev t : Tree
  t = tree s

  -- the value of an Assign stands behind its target, and in the Assign: its row of document 01's table, at 5 * 27, is two expressions
  pub value-inside : (x : ℕ) → x < node_count s → t.kind x ≡ 27 → (x + 1 < t.end (x + 1)) × (t.end (x + 1) < t.end x)
  unfolding part_at
  value-inside x l k = let u = two (nodes_of s) x 135 816 816 (ap row_of k) ((given s a).nodes.node x l).children (omega arith) refl refl refl refl refl in (u.first.past, u.second.inside)

  -- ranges nest
  nested : (c d : ℕ) → c < node_count s → c < d → d < t.end c → (t.end d ≤ t.end c) × (d < node_count s)
  nested c d h l m = let r = (given s a).nodes.root_end in let n = ((given s a).nodes.node c h).inside in ((admitted s a).nests c d (omega arith) (omega arith) l m, omega arith)

  assign-over : (c i : ℕ) → c < node_count s → t.kind c ≡ 27 → t.end (c + 1) ≡ i → Over t c i
  assign-over c i h k v =
      let u = value-inside c h k in
      let x = u.0 in
      let y = u.1 in
      record {
        kind = inl k;
        after = omega arith;
        inside = omega arith;
        between = λ d l m n.
            ⊎_elim
            (λ (q : d ≡ c + 1). let w = ap t.end q in absurd (omega arith))
            (λ (q : d ≡ c + 1 → ⊥). let w = (nested (c + 1) d (nested c (c + 1) h (omega arith) (omega arith)).1 (omega (arith, q)) (omega arith)).0 in absurd (omega arith))
            (eq-or-ne d (c + 1));
      }

  call-over : (c b i : ℕ) → c < node_count s → t.kind c ≡ 43 → Argument t c b → Down t peels b i → Over t c i
  call-over c b i h k A D =
      let x = A.after in
      let y = (nested c b h (omega arith) A.inside).0 in
      let z = D.from in
      let w = D.inside in
      record {
        kind = inr k;
        after = omega arith;
        inside = omega arith;
        between = λ d l m n. ⊎_elim (λ (q : d < b). let g = A.child d l q in absurd (omega arith)) (λ (q : b ≤ d). D.chain d q m) (lt-or-ge d b);
      }

  consumer-over : (e c i : ℕ) → Below t entry 0 e → Consumes t e c i → Over t c i
  consumer-over e c i E C =
      let r = (given s a).nodes.root_end in
      let f = E.inside in
      ⊎_elim
      (λ v. assign-over c i (nested e c (omega arith) v.0.after v.0.inside).1 (Memᴰ.eq_of_singleton v.0.kind) v.1)
      (λ v.
      let S = v.0.1 in
      let B = v.0.2 in
      let h = (nested e v.0.0 (omega arith) S.after S.inside).1 in
      call-over c v.2.0 i (nested v.0.0 c h B.after B.inside).1 (Memᴰ.eq_of_singleton B.kind) v.2.1 v.2.2)
      C.1

-- so an Ident has one consumer, in whichever entries it is sought
pub one-consumer : (s : List ℕ) → refusal s ≡ 0 → (e f c d i : ℕ) → Below (tree s) entry 0 e → Below (tree s) entry 0 f → Consumes (tree s) e c i → Consumes (tree s) f d i → c ≡ d
one-consumer s a e f c d i E F C D =
    let x = consumer-over s a e c i E C in
    let y = consumer-over s a f d i F D in
    let l = not-above (tree s) c d i x y in
    let m = not-above (tree s) d c i y x in
    omega (arith, l, m)
