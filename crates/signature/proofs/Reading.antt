-- What the writers read of a lent part: the text that a node carries, and the text of a type by the kind that was read.
use Prim.Native.Nat.{ℕ, ◌+◌, ◌*◌, ◌-◌, ◌<◌, ◌≤◌}
use mathlib.Core.Path.{◌≡◌, refl, ap, ◌∙◌, sym, subst}
use mathlib.Core.Bool.{Bool, true, false}
use mathlib.Core.List.{List, [], ◌∷◌, ◌++◌}
use mathlib.Core.Logic.{◌⊎◌, ⊎_elim}
use native.Mathlib.Omega.{arith}
use lib.ListN.{length}
use lib.Dec.{eqb, ltb}
use borrow.Author.Tests.{eq-eqb, ne_eqb, eqb-true, ltb-true, ltb-false}
use Rattle.image.specs.Pick.{both}
use Rattle.image.proofs.Every.{both_left, both_right}
use Rattle.image.specs.Text.{text_of, off_of}
use Rattle.image.specs.Tree.{carries}
use Rattle.image.specs.Admit.{node_count, name_count, names_of, text_part}
use Rattle.image.proofs.Given.{given, named}
use Rattle.image.proofs.Tree.{named as name-lies}
use Rattle.rules.specs.Tree.{Tree}
use Rattle.rules.specs.Resolve.{comma, type_text, signature}
use Rattle.nodes.specs.Shown.{View, In, tree_of, number}
use Rattle.nodes.proofs.Parts.{inside, past, kind-is}
use Rattle.nodes.proofs.Shapes.{within}
use Rattle.signature.specs.Wrote.{Room}
use Rattle.signature.specs.Texts.{args_from, params_from, IsType, quorum_text, head_text, has_arguments, Texts}
use Rattle.signature.proofs.Nodes.{Shape, is_named, is_number, is_quorum, shape_of}
use Rattle.signature.proofs.Laws.{room_as, room-front}
use Rattle.signature.proofs.Types.{type-number, type-quorum, type-bare, type-args, named-at, quorum-at, ChildAt, child-first, child-next, argument_is, args_more, tree-nests, entry-name, param-type, AtParams, params-start, params-next, params_more, params-done, params_first, signature-is}

carries-some : (k : ℕ) → (k ≡ 12) ⊎ (k ≡ 23) → carries k ≡ 0 → ⊥
unfolding carries
carries-some k h z = ⊎_elim (λ (q : k ≡ 12). two (rw q at z)) (λ (q : k ≡ 23). one (rw q at z)) h
  where
    two : ◌≡◌ {A = ℕ} 2 0 → ⊥
    two e = omega arith

    one : ◌≡◌ {A = ℕ} 1 0 → ⊥
    one e = omega arith

-- the same node by whichever image it is seen
pub kinds-agree : {part : List ℕ} {b p : ℕ} (X W : View part b) → In part b p → (tree_of X).kind p ≡ (tree_of W).kind p
kinds-agree X W i = sym (kind-is X i) ∙ kind-is W i

pub below-count : {part : List ℕ} {b p : ℕ} (W : View part b) → In part b p → p < node_count W.image
below-count W i = let u = inside W i in let v = W.shown.high in omega arith

-- the text that node p carries, where it lies in the text
module _ {part : List ℕ} {b : ℕ} {names text : List ℕ} {p : ℕ} (i : In part b p) (T : Texts part b names text) where
  pub text-is : {x : ℕ} → x ≡ number T.view.image p → text_of names text x ≡ (tree_of T.view).text p
  text-is e = rw (T.is_names, T.is_text, e) refl

  pub lies : ((tree_of T.view).kind p ≡ 12) ⊎ ((tree_of T.view).kind p ≡ 23)
      → (1 ≤ number T.view.image p) × (2 * number T.view.image p + 2 ≤ length names) × (off_of names (number T.view.image p - 1) ≤ off_of names (number T.view.image p)) × (off_of names (number T.view.image p) ≤ length text)
  lies h =
      let s = T.view.image in
      let G = given s T.view.shown.admitted in
      let n = named s G p (below-count T.view i) (carries-some ((tree_of T.view).kind p) h) in
      let m = name-lies (names_of s) (text_part s) (name_count s) (number s p) G.names n.0 n.1 in
      let a = m.0 in
      let d = n.1 in
      let l = G.name_bytes in
      rw (T.is_names, T.is_text) (n.0, omega arith, omega arith, m.1)

-- the nodes of a type
module _ {part : List ℕ} {b y : ℕ} (W : View part b) (i : In part b y) where
  here : {q k : ℕ} → y < q → q < (tree_of W).end y → (tree_of W).kind q ≡ k → In part b q × ((tree_of W).kind q ≡ k)
  here l h e = (within W i l h, e)

  -- the two numbers of a MofN
  pub quorum-first : (tree_of W).kind y ≡ 13 → In part b (y + 1) × ((tree_of W).kind (y + 1) ≡ 12)
  quorum-first k = let q = quorum-at W.image W.shown.admitted y (below-count W i) k in let e = q.0 in here (omega arith) (omega arith) q.1

  pub quorum-second : (tree_of W).kind y ≡ 13 → In part b (y + 2) × ((tree_of W).kind (y + 2) ≡ 12)
  quorum-second k = let q = quorum-at W.image W.shown.admitted y (below-count W i) k in let e = q.0 in here (omega arith) (omega arith) q.3

  -- the Name of a type, of an entry
  pub name-first : (tree_of W).kind y ≡ 11 → In part b (y + 1) × ((tree_of W).kind (y + 1) ≡ 23)
  name-first k = let q = named-at W.image W.shown.admitted y (below-count W i) k in let e = q.0 in here (omega arith) (omega arith) q.1

  pub entry_first : (tree_of W).kind y ≡ 9 → In part b (y + 1) × ((tree_of W).kind (y + 1) ≡ 23)
  entry_first k = let q = entry-name W.image W.shown.admitted y (below-count W i) k in here (omega arith) q.0 q.1

  -- the first argument, and the next
  pub args-first : (tree_of W).kind y ≡ 11 → ChildAt (tree_of W) y (y + 2) × (y + 2 ≤ (tree_of W).end y)
  args-first k =
      (child-first W.image W.shown.admitted y (below-count W i) k, (named-at W.image W.shown.admitted y (below-count W i) k).0)

-- a type with arguments: its Name and, in brackets, these
abbrev pub bracketed : ℕ → Tree → ℕ → List ℕ
bracketed l t y = head_text t y ++ ((60 ∷ []) ++ (args_from (l - 1) t y (y + 2) ++ (62 ∷ [])))

-- what a type begins with, by its kind, and what follows it
module _ (t : Tree) (y : ℕ) where
  pub head-number : t.kind y ≡ 12 → head_text t y ≡ t.text y
  unfolding head_text
  head-number k = rw (eq-eqb (t.kind y) 12 k)

  pub head-quorum : t.kind y ≡ 13 → head_text t y ≡ quorum_text t y
  unfolding head_text
  head-quorum k = rw (ne_eqb (t.kind y) 12 (λ e. omega arith), eq-eqb (t.kind y) 13 k)

  pub head-name : t.kind y ≡ 11 → head_text t y ≡ t.text (y + 1)
  unfolding head_text
  head-name k = rw (ne_eqb (t.kind y) 12 (λ e. omega arith), ne_eqb (t.kind y) 13 (λ e. omega arith))

  -- whether it has arguments, from what was read
  pub args-other : (t.kind y ≡ 11 → ⊥) → has_arguments t y ≡ false
  unfolding has_arguments
  args-other n = rw (ne_eqb (t.kind y) 11 n)

  pub args_read : {e : ℕ} → t.kind y ≡ 11 → e ≡ t.end y → ltb (y + 2) e ≡ has_arguments t y
  unfolding has_arguments
  args_read k d = rw (eq-eqb (t.kind y) 11 k, d) refl

  -- with arguments it is a type that has a Name
  pub args-named : has_arguments t y ≡ true → (t.kind y ≡ 11) × (y + 2 < t.end y)
  unfolding has_arguments
  args-named e = (eqb-true _ _ (both_left (eqb (t.kind y) 11) _ e), ltb-true _ _ (both_right (eqb (t.kind y) 11) _ e))

  module _ (l : ℕ) (z : 0 < l) where
    pub head-only : IsType t y → has_arguments t y ≡ false → type_text l t y ≡ head_text t y
    unfolding has_arguments
    head-only i e = go (shape_of t y i)
      where
        go : Shape t y → type_text l t y ≡ head_text t y
        go (is_number k) = type-number t y l z k ∙ sym (head-number k)
        go (is_quorum k) = type-quorum t y l z k ∙ sym (head-quorum k)
        go (is_named k) = let d : both true (ltb (y + 2) (t.end y)) ≡ false = ap (λ (b : Bool). both b (ltb (y + 2) (t.end y))) (sym (eq-eqb (t.kind y) 11 k)) ∙ e in type-bare t y l z k (ltb-false (y + 2) (t.end y) d) ∙ sym (head-name k)

    pub head-args : has_arguments t y ≡ true → type_text l t y ≡ bracketed l t y
    head-args e = let n = args-named e in type-args t y l z n.0 n.1 ∙ ap (λ (x : List ℕ). x ++ ((60 ∷ []) ++ (args_from (l - 1) t y (y + 2) ++ (62 ∷ [])))) (sym (head-name n.0))

    -- room for a type is room for what it begins with
    pub room-head : {at : ℕ} → IsType t y → Room at (type_text l t y) → Room at (head_text t y)
    room-head {at} i r = go (has_arguments t y) refl
      where
        go : (b : Bool) → has_arguments t y ≡ b → Room at (head_text t y)
        go true e = room-front _ (room_as (head-args e) r)
        go false e = room_as (head-only i e) r

-- the argument of the type y at c
module _ {part : List ℕ} {b y : ℕ} (W : View part b) (i : In part b y) (k : (tree_of W).kind y ≡ 11) {c : ℕ} (l : y + 2 ≤ c) (h : c < (tree_of W).end y) where
  pub arg-in : In part b c
  arg-in = within W i (omega arith) h

  module _ (f : ChildAt (tree_of W) y c) where
    pub arg-kind : IsType (tree_of W) c
    arg-kind = argument_is W.image W.shown.admitted y (below-count W i) k c f l h

    module _ {next : ℕ} (d : next ≡ (tree_of W).end c) where
      pub arg-more : (levels : ℕ) → args_from levels (tree_of W) y c ≡ comma (y + 2) c ++ (type_text levels (tree_of W) c ++ args_from levels (tree_of W) y next)
      arg-more levels =
          args_more W.image W.shown.admitted y (below-count W i) levels c f (omega arith) h
          ∙ ap (λ (x : ℕ). comma (y + 2) c ++ (type_text levels (tree_of W) c ++ args_from levels (tree_of W) y x)) (sym d)

      pub arg-next : ChildAt (tree_of W) y next
      arg-next = subst (λ (x : ℕ). ChildAt (tree_of W) y x) (sym d) (child-next W.image W.shown.admitted y (below-count W i) c f (omega arith) h)

      pub arg-past : (c < next) × (next ≤ (tree_of W).end y)
      arg-past =
          let p = past W arg-in in
          let n = tree-nests W.image W.shown.admitted y c (below-count W i) (omega arith) h in
          (omega arith, omega arith)

-- the parameter of the entry e at p
module _ {part : List ℕ} {b e : ℕ} (W : View part b) (i : In part b e) {p : ℕ} (l : e + 2 ≤ p) (h : p < (tree_of W).end e) where
  pub param_in : In part b p
  param_in = within W i (omega arith) h

  module _ (k : (tree_of W).kind p ≡ 10) where
    parts : (p + 2 < (tree_of W).end p) × ((tree_of W).kind (p + 2) ≡ 11) × ((tree_of W).end p ≤ (tree_of W).end e)
    parts = param-type W.image W.shown.admitted e (below-count W i) p (omega arith) h k

    pub param-type-in : In part b (p + 2) × IsType (tree_of W) (p + 2)
    param-type-in = let t = parts in let y = t.1 in (within W param_in (omega arith) t.0, (omega arith, omega arith))

    module _ {next : ℕ} (n : next ≡ (tree_of W).end p) where
      pub param-more : params_from (tree_of W) e p ≡ comma (e + 2) p ++ (type_text 64 (tree_of W) (p + 2) ++ params_from (tree_of W) e next)
      param-more =
          params_more W.image W.shown.admitted e (below-count W i) p (omega arith) h k
          ∙ ap (λ (x : ℕ). comma (e + 2) p ++ (type_text 64 (tree_of W) (p + 2) ++ params_from (tree_of W) e x)) (sym n)

      pub param-next : AtParams W.image W.shown.admitted e p → AtParams W.image W.shown.admitted e next
      param-next A = subst (λ (x : ℕ). AtParams W.image W.shown.admitted e x) (sym n) (params-next W.image W.shown.admitted e (below-count W i) p A h k)

      pub param-past : (p + 2 < next) × (next ≤ (tree_of W).end e)
      param-past = let x = parts.0 in let y = parts.2 in (omega arith, omega arith)

module _ {part : List ℕ} {b e : ℕ} (W : View part b) (i : In part b e) (k : (tree_of W).kind e ≡ 9) where
  pub params-from : AtParams W.image W.shown.admitted e (e + 2) × (e + 2 ≤ (tree_of W).end e)
  params-from = let n = (entry-name W.image W.shown.admitted e (below-count W i) k).0 in (params-start W.image W.shown.admitted e (below-count W i) k, omega arith)

  pub params_none : (p : ℕ) → AtParams W.image W.shown.admitted e p → (p < (tree_of W).end e → (tree_of W).kind p ≡ 10 → ⊥) → params_from (tree_of W) e p ≡ []
  params_none p A n = params-done W.image W.shown.admitted e (below-count W i) p A n

  pub signature-so : signature (tree_of W) e ≡ (tree_of W).text (e + 1) ++ ((40 ∷ []) ++ (params_from (tree_of W) e (e + 2) ++ (41 ∷ [])))
  signature-so =
      signature-is (tree_of W) e
      ∙ ap (λ (m : List ℕ). (tree_of W).text (e + 1) ++ ((40 ∷ []) ++ (m ++ (41 ∷ [])))) (params_first W.image W.shown.admitted e (below-count W i) k)

-- a type that is neither 12 nor 13 is named
pub named-so : {k x : ℕ} → k ≡ x → (11 ≤ x) × (x ≤ 13) → (k ≡ 12 → ⊥) → (k ≡ 13 → ⊥) → k ≡ 11
named-so e r a b = let l = r.0 in let h = r.1 in omega (arith, e, a, b)
