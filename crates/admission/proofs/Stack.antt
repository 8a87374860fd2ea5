-- Refusal 6 in one walk over the nodes, with a stack of those that have not ended: what is still to be found out of the children of each, and what a node changes of that.
use Prim.Native.Nat.{ℕ, zero, suc, ◌+◌, ◌*◌, ◌-◌, ◌<◌, ◌≤◌}
use mathlib.Core.Path.{◌≡◌, refl, ap, ◌∙◌, sym, subst}
use mathlib.Core.Bool.{Bool, true, false, true≢false}
use mathlib.Core.List.{List}
use mathlib.Core.Logic.{⊎_elim}
use native.Mathlib.Numerals.{add-one}
use native.Mathlib.Omega.{arith}
use borrow.Author.Tests.{ltb-true, leb-true, eqb-true, lt-ltb, le-ltb, le-leb, lt-leb, eq-eqb, ne_eqb}
use lib.Dec.{ltb, leb, eqb}
use lib.ListN.{length, get_or, set, length-set}
use lib.Seq.{get_or-set_same, get_or-set_other}
use Rattle.image.specs.Pick.{pick, both, every}
use Rattle.image.specs.Node.{half, kind_of, name_of, end_of}
use Rattle.image.specs.Digits.{family_of, part_at, place_after, ends, row_of, children_from, states, state_of, next_state, may_end, fields_ok, Rooted}
use Rattle.steps.specs.Steps.{root_ok, child_ok}
use Rattle.image.specs.Tree.{children_fit, name_fits, node_ok, tree_ok}
use Rattle.image.proofs.Decide.{eq-or-ne}
use Rattle.image.proofs.Every.{both_left, both_right, every-none, every_more, every-at}
use Rattle.image.proofs.Digits.{family-small, state-small, state-ends, state-next}
use Rattle.image.proofs.Walk.{fit-walk}

module _ (nodes : List ℕ) where
  -- from `at` on, nodes tile the range up to e, and they fit the rest of a row that is in state s
  walk_from : ℕ → ℕ → ℕ → ℕ → Bool
  walk_from zero s at e = false
  walk_from (suc n) s at e =
      pick (ltb at e) (both (ltb at (end_of nodes at)) (walk_from n (next_state s (family_of (kind_of nodes at))) (end_of nodes at) e)) (both (eqb at e) (may_end s))

  walk-states : (n q at e : ℕ) → children_from n nodes q at e ≡ walk_from n (state_of q) at e
  unfolding children_from walk_from
  walk-states zero q at e = refl
  walk-states (suc n) q at e =
      let f = family_of (kind_of nodes at) in
      ap (λ (x : Bool). pick (ltb at e) (both (ltb at (end_of nodes at)) x) (both (eqb at e) (ends q))) (walk-states n (place_after q f) (end_of nodes at) e ∙ ap (λ (s : ℕ). walk_from n s (end_of nodes at) e) (sym (state-next q f (family-small (kind_of nodes at)))))
      ∙ ap (λ (x : Bool). pick (ltb at e) (both (ltb at (end_of nodes at)) (walk_from n (next_state (state_of q) f) (end_of nodes at) e)) (both (eqb at e) x)) (state-ends q)

  walk-past : (n s at e : ℕ) → e < at → walk_from n s at e ≡ false
  unfolding walk_from
  walk-past zero s at e h = refl
  walk-past (suc n) s at e h = let d : at ≡ e → ⊥ = omega arith in simp (le-ltb at e (omega arith), ne_eqb at e d)

  -- enough turns are enough
  walk-enough : (n k s at e : ℕ) → e < at + n → e < at + k → walk_from n s at e ≡ walk_from k s at e
  unfolding walk_from
  walk-enough zero k s at e l h = sym (walk-past k s at e (omega arith))
  walk-enough (suc n) zero s at e l h = walk-past (suc n) s at e (omega arith)
  walk-enough (suc n) (suc k) s at e l h = go (ltb at e) (ltb at (end_of nodes at)) refl (λ g. walk-enough n k (next_state s (family_of (kind_of nodes at))) (end_of nodes at) e (omega arith) (omega arith))
    where
      go : (a b : Bool) → ltb at (end_of nodes at) ≡ b
          → (at < end_of nodes at → walk_from n (next_state s (family_of (kind_of nodes at))) (end_of nodes at) e ≡ walk_from k (next_state s (family_of (kind_of nodes at))) (end_of nodes at) e)
          → pick a (both b (walk_from n (next_state s (family_of (kind_of nodes at))) (end_of nodes at) e)) (both (eqb at e) (may_end s)) ≡ pick a (both b (walk_from k (next_state s (family_of (kind_of nodes at))) (end_of nodes at) e)) (both (eqb at e) (may_end s))
      go true true x ih = ih (ltb-true at (end_of nodes at) x)
      go true false x ih = refl
      go false b x ih = refl

  pub rest : ℕ → ℕ → ℕ → Bool
  rest s at e = walk_from (suc (e - at)) s at e

  rest_end : (s at e : ℕ) → at ≡ e → rest s at e ≡ may_end s
  unfolding rest walk_from
  rest_end s at e h = simp (le-ltb at e (omega arith), eq-eqb at e h)

  rest-past : (s at e : ℕ) → e < at → rest s at e ≡ false
  unfolding rest
  rest-past s at e h = walk-past (suc (e - at)) s at e h

  rest-on : (s at e : ℕ) → at < e → at < end_of nodes at → rest s at e ≡ rest (next_state s (family_of (kind_of nodes at))) (end_of nodes at) e
  unfolding rest walk_from
  rest-on s at e h g = simp (lt-ltb at e h, lt-ltb at (end_of nodes at) g) (walk-enough (e - at) (suc (e - end_of nodes at)) _ (end_of nodes at) e (omega arith) (omega arith))

  fit-rest : (i e : ℕ) → i < e → children_fit nodes i e ≡ rest (state_of (row_of (kind_of nodes i))) (i + 1) e
  unfolding rest
  fit-rest i e h =
      let z : e - i ≡ suc (e - (i + 1)) = omega arith in
      fit-walk nodes i e ∙ walk-states (e - i) (row_of (kind_of nodes i)) (i + 1) e ∙ ap (λ (n : ℕ). walk_from n (state_of (row_of (kind_of nodes i))) (i + 1) e) z

  -- What is still to be found out: of the node at the top, whose row is in state s at node `at` and which ends at e; and of each of the d nodes below it, whose states and ends are on the stack. The next child of each starts where the one above it ends.
  pub Pending : List ℕ → List ℕ → ℕ → ℕ → ℕ → ℕ → Type 0
  Pending ps es zero s at e = rest s at e ≡ true
  Pending ps es (suc d) s at e = (rest s at e ≡ true) × Pending ps es d (get_or ps d 0) e (get_or es d 0)

  pending-top : (ps es : List ℕ) (d s at e : ℕ) → Pending ps es d s at e → rest s at e ≡ true
  unfolding Pending
  pending-top ps es zero s at e p = p
  pending-top ps es (suc d) s at e p = p.0

  -- another node at the top, with the same end
  pending-as : (ps es : List ℕ) (d s s' at at' e : ℕ) → rest s' at' e ≡ rest s at e → Pending ps es d s at e → Pending ps es d s' at' e
  unfolding Pending
  pending-as ps es zero s s' at at' e g p = g ∙ p
  pending-as ps es (suc d) s s' at at' e g p = (g ∙ p.0, p.1)

  pending-pop : (ps es : List ℕ) (d s at e : ℕ) → 0 < d → Pending ps es d s at e → Pending ps es (d - 1) (get_or ps (d - 1) 0) e (get_or es (d - 1) 0)
  unfolding Pending
  pending-pop ps es zero s at e l p = absurd (omega arith)
  pending-pop ps es (suc d) s at e l p = let z : suc d - 1 ≡ d = omega arith in rw z p.1

  pending-back : (ps es : List ℕ) (d s at e : ℕ) → 0 < d → rest s at e ≡ true → Pending ps es (d - 1) (get_or ps (d - 1) 0) e (get_or es (d - 1) 0) → Pending ps es d s at e
  unfolding Pending
  pending-back ps es zero s at e l r p = absurd (omega arith)
  pending-back ps es (suc d) s at e l r p = let z : suc d - 1 ≡ d = omega arith in (r, rw z at p)

  module _ (ps es : List ℕ) (k x y : ℕ) where
    pending-set : (d s at e : ℕ) → d ≤ k → Pending ps es d s at e → Pending (set ps k x) (set es k y) d s at e
    unfolding Pending
    pending-set zero s at e l p = p
    pending-set (suc d) s at e l p = (p.0, rw (get_or-set_other ps k d x 0 (omega arith), get_or-set_other es k d y 0 (omega arith)) (pending-set d _ e _ (omega arith) p.1))

    pending-unset : (d s at e : ℕ) → d ≤ k → Pending (set ps k x) (set es k y) d s at e → Pending ps es d s at e
    unfolding Pending
    pending-unset zero s at e l p = p
    pending-unset (suc d) s at e l p = (p.0, pending-unset d _ e _ (omega arith) (rw (get_or-set_other ps k d x 0 (omega arith), get_or-set_other es k d y 0 (omega arith)) at p.1))

  bare : (ps es : List ℕ) (s at e : ℕ) → rest s at e ≡ true → Pending ps es 0 s at e
  unfolding Pending
  bare ps es s at e r = r

  module _ (ps es : List ℕ) (d x row at to e : ℕ) (lp : d < length ps) (le : d < length es) where
    pending-push : rest row at to ≡ true → Pending ps es d x to e → Pending (set ps d x) (set es d e) (d + 1) row at to
    unfolding Pending
    pending-push r p = rw (add-one, get_or-set_same ps d x 0 lp, get_or-set_same es d e 0 le) (r, pending-set ps es d x e d x to e (omega arith) p)

    pending-pushed : Pending (set ps d x) (set es d e) (d + 1) row at to → (rest row at to ≡ true) × Pending ps es d x to e
    unfolding Pending
    pending-pushed p = let q = opened p in (q.0, pending-unset ps es d x e d x to e (omega arith) (rw (get_or-set_same ps d x 0 lp, get_or-set_same es d e 0 le) at q.1))
      where
        opened : Pending (set ps d x) (set es d e) (d + 1) row at to → (rest row at to ≡ true) × Pending (set ps d x) (set es d e) d (get_or (set ps d x) d 0) to (get_or (set es d e) d 0)
        opened p = subst (λ (k : ℕ). Pending (set ps d x) (set es d e) k row at to) (add-one d) p

-- the ends on the stack: each node ends within the one below it, and the lowest at n
unfoldable pub Nested : ℕ → List ℕ → ℕ → ℕ → Type 0
Nested n es zero e = e ≡ n
Nested n es (suc d) e = (e ≤ get_or es d 0) × Nested n es d (get_or es d 0)

pub nested-high : (n : ℕ) (es : List ℕ) (d e : ℕ) → Nested n es d e → e ≤ n
unfolding Nested
nested-high n es zero e p = omega arith
nested-high n es (suc d) e p = let h = nested-high n es d (get_or es d 0) p.1 in let l = p.0 in omega arith

nested-pop : (n : ℕ) (es : List ℕ) (d e : ℕ) → 0 < d → Nested n es d e → (e ≤ get_or es (d - 1) 0) × Nested n es (d - 1) (get_or es (d - 1) 0)
unfolding Nested
nested-pop n es zero e l p = absurd (omega arith)
nested-pop n es (suc d) e l p = let z : suc d - 1 ≡ d = omega arith in rw z p

nested-set : (n : ℕ) (es : List ℕ) (k y d e : ℕ) → d ≤ k → Nested n es d e → Nested n (set es k y) d e
unfolding Nested
nested-set n es k y zero e l p = p
nested-set n es k y (suc d) e l p = rw (get_or-set_other es k d y 0 (omega arith)) (p.0, nested-set n es k y d (get_or es d 0) (omega arith) p.1)

nested-push : (n : ℕ) (es : List ℕ) (d e to : ℕ) → d < length es → to ≤ e → Nested n es d e → Nested n (set es d e) (d + 1) to
unfolding Nested
nested-push n es d e to l h p = rw (add-one, get_or-set_same es d e 0 l) (h, nested-set n es d e d e (omega arith) p)

pub nested-last : (n : ℕ) (es : List ℕ) (d e : ℕ) → d ≡ 0 → Nested n es d e → e ≡ n
unfolding Nested
nested-last n es zero e z p = p
nested-last n es (suc d) e z p = absurd (omega arith)

module _ (nodes names text : List ℕ) (n m : ℕ) where
  -- a node's fields are in order, and so are its end and its children
  node-split : (i : ℕ) → node_ok nodes names text n m i ≡ both (fields_ok nodes names text m i) (both (ltb i (end_of nodes i)) (both (leb (end_of nodes i) n) (children_fit nodes i (end_of nodes i))))
  unfolding node_ok fields_ok
  node-split i = go (eqb (get_or nodes (16 * i + 1) 0) 0) (eqb (half nodes (16 * i + 6)) 0) (name_fits names text m (kind_of nodes i) (name_of nodes i)) _
    where
      go : (a b c d : Bool) → both a (both b (both c d)) ≡ both (both a (both b c)) d
      go true true c d = refl
      go true false c d = refl
      go false b c d = refl

  node-rest : (i to : ℕ) → fields_ok nodes names text m i ≡ true → to ≡ end_of nodes i → i < to → to ≤ n → node_ok nodes names text n m i ≡ rest nodes (state_of (row_of (kind_of nodes i))) (i + 1) to
  node-rest i to f is l h =
      node-split i ∙ simp (f, lt-ltb i (end_of nodes i) (omega arith), le-leb (end_of nodes i) n (omega arith)) (fit-rest nodes i (end_of nodes i) (omega arith) ∙ ap (rest nodes (state_of (row_of (kind_of nodes i))) (i + 1)) (sym is))

  abbrev pub All : ℕ → Bool
  All i = every (node_ok nodes names text n m) i

  node-fields : (i : ℕ) → i < n → All n ≡ true → both (fields_ok nodes names text m i) (both (ltb i (end_of nodes i)) (both (leb (end_of nodes i) n) (children_fit nodes i (end_of nodes i)))) ≡ true
  node-fields i l a = sym (node-split i) ∙ every-at (node_ok nodes names text n m) n i a l

  pub root-unfit : 1 ≤ n → false ≡ root_ok nodes names text n m → tree_ok nodes names text n m ≡ true → ⊥
  root-unfit l f t =
      let a = both_right (eqb (kind_of nodes 0) 1) _ t in
      let fields = both_left (fields_ok nodes names text m 0) _ (node-fields 0 (omega arith) (both_right (eqb (end_of nodes 0) n) _ a)) in
      true≢false (sym (simp (both_left (eqb (kind_of nodes 0) 1) _ t, both_left (eqb (end_of nodes 0) n) _ a, fields)) ∙ sym f)

  pub root-fit : 1 ≤ n → true ≡ root_ok nodes names text n m → Rooted nodes names text n m
  root-fit l f =
      let a = both_right (eqb (kind_of nodes 0) 1) _ (sym f) in
      record {
        some = l;
        root = eqb-true (kind_of nodes 0) 1 (both_left (eqb (kind_of nodes 0) 1) _ (sym f));
        whole = eqb-true (end_of nodes 0) n (both_left (eqb (end_of nodes 0) n) _ a);
        fields = both_right (eqb (end_of nodes 0) n) _ a;
      }

  -- The walk at node i: all nodes before it are in order if what is pending is found to be so; and it is, if all nodes are in order.
  pub record Open (ps es : List ℕ) (d s e i : ℕ) : Type 0 where
    pub low : 1 ≤ i
    pub small : s < 31
    pub smalls : (j : ℕ) → j < d → get_or ps j 0 < 31
    pub within : i ≤ e
    pub nested : Nested n es d e
    pub deep : d < i
    pub states_long : length ps ≡ 2048
    pub ends_long : length es ≡ 2048
    pub so_far : Pending nodes ps es d s i e → All i ≡ true
    pub told : All n ≡ true → Pending nodes ps es d s i e

  pub open-starts : Rooted nodes names text n m → (ps es : List ℕ) → length ps ≡ 2048 → length es ≡ 2048 → Open ps es 0 1 n 1
  unfolding Pending Nested part_at state_of states
  open-starts R ps es lp le =
      let z : state_of (row_of (kind_of nodes 0)) ≡ 1 = ap (λ (k : ℕ). state_of (row_of k)) R.root in
      let g = R.some in
      let x : node_ok nodes names text n m 0 ≡ rest nodes 1 1 n = node-rest 0 n R.fields (sym R.whole) (omega arith) (omega arith) ∙ ap (λ (s : ℕ). rest nodes s 1 n) z in
      record {
        low = omega arith;
        small = omega arith;
        smalls = λ j h. absurd (omega arith);
        within = g;
        nested = refl;
        deep = omega arith;
        states_long = lp;
        ends_long = le;
        so_far = λ p. every_more (node_ok nodes names text n m) 0 (every-none (node_ok nodes names text n m)) (x ∙ p);
        told = λ a. sym x ∙ every-at (node_ok nodes names text n m) n 0 a (omega arith);
      }

  module _ {ps es : List ℕ} {d s e i : ℕ} (O : Open ps es d s e i) where
    pub open-high : e ≤ n
    open-high = nested-high n es d e O.nested

    -- the node at the top ends here
    module _ (here : e ≡ i) where
      pub open-wants : s < 19 → All n ≡ true → ⊥
      open-wants l a = true≢false (sym (pending-top nodes ps es d s i e (O.told a)) ∙ rest_end nodes s i e (sym here) ∙ lt-leb 19 s l)

      module _ (may : 19 ≤ s) where
        ended : rest nodes s i e ≡ true
        ended = rest_end nodes s i e (sym here) ∙ le-leb 19 s may

        pub open_done : d < 1 → true ≡ All n
        open_done z =
            let k = nested-last n es d e (omega arith) O.nested in
            let y : i ≡ n = sym here ∙ k in
            sym (ap All (sym y) ∙ O.so_far (pending-zero z ended))
          where
            pending-zero : d < 1 → rest nodes s i e ≡ true → Pending nodes ps es d s i e
            pending-zero z r = let y : d ≡ 0 = omega arith in subst (λ (x : ℕ). Pending nodes ps es x s i e) (sym y) (bare nodes ps es s i e r)

        pub open-pop : 1 ≤ d → Open ps es (d - 1) (get_or ps (d - 1) 0) (get_or es (d - 1) 0) i
        open-pop l =
            let q = nested-pop n es d e (omega arith) O.nested in
            let q0 = q.0 in
            let w = O.deep in
            record {
              low = O.low;
              small = O.smalls (d - 1) (omega arith);
              smalls = λ j h. O.smalls j (omega arith);
              within = omega arith;
              nested = q.1;
              deep = omega arith;
              states_long = O.states_long;
              ends_long = O.ends_long;
              so_far = λ p. O.so_far (pending-back nodes ps es d s i e (omega arith) ended (subst (λ (x : ℕ). Pending nodes ps es (d - 1) (get_or ps (d - 1) 0) x (get_or es (d - 1) 0)) (sym here) p));
              told = λ a. subst (λ (x : ℕ). Pending nodes ps es (d - 1) (get_or ps (d - 1) 0) x (get_or es (d - 1) 0)) here (pending-pop nodes ps es d s i e (omega arith) (O.told a));
            }

    -- node i is the next child of the node at the top
    module _ (inside : (e ≡ i → ⊥)) where
      pub before-end : i < e
      before-end = let w = O.within in omega (arith, inside)

      top : All n ≡ true → rest nodes s i e ≡ true
      top a = pending-top nodes ps es d s i e (O.told a)

      pub open-unfit : false ≡ child_ok nodes names text m e i → All n ≡ true → ⊥
      open-unfit f a =
          let b = before-end in
          let h = open-high in
          let ok = node-fields i (omega arith) a in
          let past = both_left (ltb i (end_of nodes i)) _ (both_right (fields_ok nodes names text m i) _ ok) in
          let over : e < end_of nodes i → ⊥ = λ l. true≢false (sym (top a) ∙ rest-on nodes s i e b (ltb-true i (end_of nodes i) past) ∙ rest-past nodes _ (end_of nodes i) e l) in
          true≢false (sym (simp (both_left (fields_ok nodes names text m i) _ ok, past, le-leb (end_of nodes i) e (omega (arith, over)))) ∙ sym f)

      module _ (fit : true ≡ child_ok nodes names text m e i) (to : ℕ) (is : to ≡ end_of nodes i) where
        fields : fields_ok nodes names text m i ≡ true
        fields = both_left (fields_ok nodes names text m i) _ (sym fit)

        past : i < to
        past = let l = ltb-true i (end_of nodes i) (both_left (ltb i (end_of nodes i)) _ (both_right (fields_ok nodes names text m i) _ (sym fit))) in omega arith

        kept : to ≤ e
        kept = let l = leb-true (end_of nodes i) e (both_right (ltb i (end_of nodes i)) _ (both_right (fields_ok nodes names text m i) _ (sym fit))) in omega arith

        module _ (row : ℕ) (starts : row ≡ state_of (row_of (kind_of nodes i))) where
          judged : node_ok nodes names text n m i ≡ rest nodes row (i + 1) to
          judged = let h = open-high in let k = kept in node-rest i to fields is past (omega arith) ∙ ap (λ (x : ℕ). rest nodes x (i + 1) to) (sym starts)

          module _ (after : ℕ) (goes : after ≡ next_state s (family_of (kind_of nodes i))) (few : after < 31) where
            on : rest nodes s i e ≡ rest nodes after to e
            on =
                let l = past in
                rest-on nodes s i e before-end (omega arith) ∙ ap (λ (x : ℕ). rest nodes (next_state s (family_of (kind_of nodes i))) x e) (sym is) ∙ ap (λ (x : ℕ). rest nodes x to e) (sym goes)

            -- a node without children
            pub open-leaf : to ≤ i + 1 → 19 ≤ row → Open ps es d after e (i + 1)
            open-leaf h l =
                let g = past in
                let z : to ≡ i + 1 = omega arith in
                let w = O.deep in
                let b = before-end in
                let x : rest nodes s i e ≡ rest nodes after (i + 1) e = on ∙ ap (λ (x : ℕ). rest nodes after x e) z in
                let y : node_ok nodes names text n m i ≡ true = judged ∙ rest_end nodes row (i + 1) to (sym z) ∙ le-leb 19 row l in
                record {
                  low = omega arith;
                  small = few;
                  smalls = O.smalls;
                  within = omega arith;
                  nested = O.nested;
                  deep = omega arith;
                  states_long = O.states_long;
                  ends_long = O.ends_long;
                  so_far = λ p. every_more (node_ok nodes names text n m) i (O.so_far (pending-as nodes ps es d after s (i + 1) i e x p)) y;
                  told = λ a. pending-as nodes ps es d s after i (i + 1) e (sym x) (O.told a);
                }

            -- a node that is opened: it comes to the top
            pub open-push : n ≤ 2048 → Open (set ps d after) (set es d e) (d + 1) row to (i + 1)
            open-push few-nodes =
                let q = state-small (row_of (kind_of nodes i)) in
                let high = open-high in
                let g = past in
                let w = O.deep in
                let b = before-end in
                let lp = O.states_long in
                let le = O.ends_long in
                record {
                  low = omega arith;
                  small = omega arith;
                  smalls = λ j h. ⊎_elim (λ (q : j ≡ d). subst (λ (x : ℕ). get_or (set ps d after) x 0 < 31) (sym q) (subst (λ (x : ℕ). x < 31) (sym (get_or-set_same ps d after 0 (omega arith))) few)) (λ (q : j ≡ d → ⊥). subst (λ (x : ℕ). x < 31) (sym (get_or-set_other ps d j after 0 q)) (O.smalls j (omega (arith, q)))) (eq-or-ne j d);
                  within = omega arith;
                  nested = nested-push n es d e to (omega arith) kept O.nested;
                  deep = omega arith;
                  states_long = length-set ps d after ∙ lp;
                  ends_long = length-set es d e ∙ le;
                  so_far = λ p. every_more (node_ok nodes names text n m) i (O.so_far (pending-as nodes ps es d after s to i e on (pending-pushed nodes ps es d after row (i + 1) to e (omega arith) (omega arith) p).1)) (judged ∙ (pending-pushed nodes ps es d after row (i + 1) to e (omega arith) (omega arith) p).0);
                  told = λ a. pending-push nodes ps es d after row (i + 1) to e (omega arith) (omega arith) (sym judged ∙ every-at (node_ok nodes names text n m) n i a (omega arith)) (pending-as nodes ps es d s after i to e (sym on) (O.told a));
                }
