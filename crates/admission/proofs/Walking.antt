-- What stands at each position of the walk over the nodes: refusal 6 by what is pending of the open nodes (Stack), refusal 7 by how many they are (Deep), and the marks of the names (Marked).
use Prim.Native.Nat.{ℕ, ◌+◌, ◌*◌, ◌-◌, ◌/◌, ◌%◌, ◌<◌, ◌≤◌}
use mathlib.Core.Path.{◌≡◌, refl, ap, ◌∙◌, sym, subst}
use mathlib.Core.Bool.{Bool, true, false}
use mathlib.Core.List.{List}
use mathlib.Core.Logic.{⊎_elim}
use native.Mathlib.Omega.{arith}
use lib.Dec.{ltb}
use lib.ListN.{get_or, set}
use Rattle.image.specs.Pick.{pick}
use Rattle.image.specs.Maxima.{max_nodes, max_names, max_depth}
use Rattle.image.specs.Node.{kind_of, name_of, end_of}
use Rattle.image.specs.Digits.{family_of, next_state, kind_facts, fields_ok, Rooted, WalkTables}
use Rattle.steps.specs.Steps.{child_ok, begun, ascended, Roomy, Passed, Opened, Further}
use Rattle.image.specs.Tree.{tree_ok, depth_ok, used_in}
use Rattle.steps.specs.declared.Position.{Position}
use Rattle.image.proofs.Digits.{facts-family, facts-row}
use Rattle.image.proofs.Every.{both_left}
use Rattle.image.proofs.Tree.{fields-small, tree-each}
use Rattle.admission.proofs.Marked.{Marked, cell-own, marked-none, marked-set, marked_all}
use Rattle.admission.proofs.Stack.{Open, All, open-starts, open-high, open-wants, open_done, open-pop, before-end, open-unfit, open-leaf, open-push, nested-last}
use Rattle.admission.proofs.Deep.{Deep, deep-starts, deep-pop, deep-done, deep-leaf, deep-push}

module _ (nodes names text : List ℕ) (n m : ℕ) where
  pub record Walking (ps es : List ℕ) (marks : List Bool) (p : Position) : Type 0 where
    pub pending : Open nodes names text n m ps es p.depth p.state p.end p.at
    pub counted : Deep nodes es p.depth p.end p.at p.deepest
    pub marked : Marked nodes p.at marks

  -- what is answered, where `ok` says that all nodes are in order, and what then holds of the marks
  abbrev Answer : Bool → ℕ → Type 0 → Type 0
  Answer ok r marked = (r ≡ pick ok (pick (depth_ok nodes n) 0 7) 6) × (r ≡ 0 → marked)

  pub refused : (ok : Bool) → (ok ≡ true → ⊥) → {marked : Type 0} → Answer ok 6 marked
  refused true f = absurd (f refl)
  refused false f = (refl, λ z. absurd (omega arith))

  -- the answer for all nodes is that for the tree
  pub whole : Rooted nodes names text n m → (r : ℕ) {marked : Type 0} → Answer (All nodes names text n m n) r marked → Answer (tree_ok nodes names text n m) r marked
  whole R r {marked} w = subst (λ (ok : Bool). Answer ok r marked) (sym (tree-each nodes names text n m R.root R.whole)) w

  abbrev Walked : ℕ → List Bool → Type 0
  Walked r marks = Answer (All nodes names text n m n) r ((k : ℕ) → k < max_names → get_or marks (k + 1) false ≡ used_in nodes n k)

  own-cell : m ≤ max_names → (i : ℕ) (r : List Bool) → true ≡ fields_ok nodes names text m i → Marked nodes i r → Marked nodes (i + 1) (set r (name_of nodes i) true)
  own-cell h i r f M = marked-set nodes i r M (name_of nodes i) (sym (cell-own (name_of nodes i) (fields-small nodes names text m i h f)))

  pub begins : m ≤ max_names → Rooted nodes names text n m → {ps es : List ℕ} {marks : List Bool} → WalkTables nodes ps es marks → Walking ps es marks (begun n)
  begins h R {ps} {es} {marks} L =
      record {
        pending = open-starts nodes names text n m R ps es L.states_long L.ends_long;
        counted = deep-starts nodes n es R.whole;
        marked = subst (λ (r : List Bool). Marked nodes 1 r) (sym L.fresh) (own-cell h 0 _ (sym R.fields) (marked-none nodes));
      }

  module _ {ps es : List ℕ} {marks : List Bool} {p : Position} (W : Walking ps es marks p) where
    pub bounds : (p.at ≤ p.end) × (p.end ≤ n) × (p.depth < p.at)
    bounds = let O = W.pending in (O.within, open-high nodes names text n m O, O.deep)

    -- the open node ends here
    module _ (here : p.end ≡ p.at) where
      pub wanting : p.state < 19 → Walked 6 marks
      wanting l = refused _ (open-wants nodes names text n m W.pending here l)

      module _ (may : 19 ≤ p.state) where
        pub ascends : 1 ≤ p.depth → Walking ps es marks (ascended ps es p)
        ascends l =
            record {
              pending = open-pop nodes names text n m W.pending here may l;
              counted = deep-pop nodes n W.counted here l;
              marked = W.marked;
            }

        pub finished : p.depth < 1 → (r : ℕ) → r ≡ pick (ltb p.deepest max_depth) 0 7 → Walked r marks
        finished z r is =
            let N = W.pending.nested in
            let last = nested-last n es p.depth p.end (omega arith) N in
            let all = open_done nodes names text n m W.pending here may z in
            let deep = deep-done nodes n W.counted N here z in (
              is ∙ ap (λ (b : Bool). pick b 0 7) (sym deep) ∙ ap (λ (b : Bool). pick b (pick (depth_ok nodes n) 0 7) 6) all,
              λ z k h. marked_all nodes n p.at marks (omega arith) (omega arith) W.marked k h,
            )

    -- node `at` is the next child of the open node
    module _ (inside : (p.end ≡ p.at → ⊥)) where
      pub inner : p.at < n
      inner = let b = before-end nodes names text n m W.pending inside in let h = bounds in let h1 = h.1 in omega arith

      -- a step leaves less of the walk
      pub nearer : {after row to : ℕ} {ps' es' : List ℕ} {r : Position} → Further after row to ps es ps' es' p r → 2 * (n - r.at) + r.depth < 2 * (n - p.at) + p.depth
      nearer {after} {row} {to} {ps'} {es'} {r} =
          let b = inner in
          ⊎_elim
          (λ (s : Passed after row to ps es ps' es' p r). rw s.moved (omega arith))
          (λ (s : Opened after row to ps es ps' es' p r). rw s.moved (omega arith))

      pub unfit : false ≡ child_ok nodes names text m p.end p.at → Walked 6 marks
      unfit f = refused _ (open-unfit nodes names text n m W.pending inside f)

      module _ (few : n ≤ max_nodes) where
        pub roomy : (after : ℕ) → after < 31 → Roomy p after
        roomy after l =
            let b = inner in
            let h = bounds in
            let h1 = h.1 in
            let h2 = h.2 in
            record { at_small = omega arith; depth_small = omega arith; end_small = omega arith; after_small = l }

        module _ (names-few : m ≤ max_names) (fit : true ≡ child_ok nodes names text m p.end p.at) where
          fields : true ≡ fields_ok nodes names text m p.at
          fields = sym (both_left (fields_ok nodes names text m p.at) _ (sym fit))

          pub own-small : name_of nodes p.at ≤ max_names
          own-small = fields-small nodes names text m p.at names-few fields

          -- `of` are the facts of its kind
          module _ (of : ℕ) (known : of ≡ kind_facts (kind_of nodes p.at)) (after : ℕ) (goes : after ≡ next_state p.state (of % 16)) (small : after < 31) (to : ℕ) (is : to ≡ end_of nodes p.at) where
            goes_on : after ≡ next_state p.state (family_of (kind_of nodes p.at))
            goes_on = goes ∙ ap (next_state p.state) (facts-family _ _ known)

            marked-on : Marked nodes (p.at + 1) (set marks (name_of nodes p.at) true)
            marked-on = own-cell names-few p.at marks fields W.marked

            pub steps : {ps' es' : List ℕ} {marks' : List Bool} {r : Position} → marks' ≡ set marks (name_of nodes p.at) true → Further after (of / 64) to ps es ps' es' p r → Walking ps' es' marks' r
            steps {ps'} {es'} {marks'} {r} put =
                let O = W.pending in
                let N = O.nested in
                let b = before-end nodes names text n m O inside in
                let row = facts-row _ _ known in
                let h = bounds in
                let h1 = h.1 in
                let h2 = h.2 in
                let l = O.ends_long in
                ⊎_elim
                (λ (s : Passed after (of / 64) to ps es ps' es' p r).
                rw (s.moved, s.same_states, s.same_ends, put)
                record {
                  pending = open-leaf nodes names text n m O inside fit to is _ row after goes_on small s.last s.may;
                  counted = deep-leaf nodes n W.counted N b to is s.last;
                  marked = marked-on;
                })
                (λ (s : Opened after (of / 64) to ps es ps' es' p r).
                rw (s.moved, s.put_state, s.put_end, put)
                record {
                  pending = open-push nodes names text n m O inside fit to is _ row after goes_on small few;
                  counted = deep-push nodes n W.counted N b to is (omega arith);
                  marked = marked-on;
                })
