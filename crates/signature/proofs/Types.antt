-- What stands where in a type and among an entry's parameters, and their texts node by node.
use Prim.Native.Nat.{ℕ, zero, suc, ◌+◌, ◌-◌, ◌<◌, ◌≤◌}
use mathlib.Core.Path.{◌≡◌, refl, ap, ◌∙◌, sym, subst}
use mathlib.Core.Bool.{Bool, true, false}
use mathlib.Core.List.{List, [], ◌∷◌, ◌++◌, append_assoc, append-nil}
use mathlib.Core.Logic.{⊎_elim}
use native.Mathlib.Nat.{eq-or-lt_of_le}
use native.Mathlib.Omega.{arith}
use borrow.Author.Tests.{eq-eqb, ne_eqb, lt-ltb, le-ltb}
use Rattle.image.specs.Pick.{every}
use Rattle.image.specs.Node.{end_of}
use Rattle.image.specs.Admit.{refusal, node_count, nodes_of}
use Rattle.image.proofs.Decide.{lt-or-ge}
use Rattle.image.proofs.Given.{given}
use Rattle.image.proofs.Nest.{nests}
use Rattle.image.proofs.Row.{Kid, Kids, none, some, kids-within, kids-next}
use Rattle.image.proofs.Children.{Entry, kid_is, leaf, type-of, m-of-n, param_of, entry_of}
use Rattle.image.proofs.Only.{kids-hold}
use Rattle.rules.specs.Sweep.{run, keep, has}
use Rattle.rules.specs.Tree.{Tree, tree}
use Rattle.rules.specs.Vocabulary.{is_child, arguments, below}
use Rattle.rules.specs.Standing.{parts}
use Rattle.rules.specs.Resolve.{comma, type_text, signature}
use Rattle.rules.proofs.Reflect.{tells-has, tells-is_child}
use Rattle.rules.proofs.Admitted.{admitted}
use Rattle.records.proofs.Sweep.{run-parts, run-later, keep-none, has_one, has-not}
use Rattle.nodes.proofs.Ranges.{ranged, into}
use Rattle.signature.specs.Texts.{args_from, params_from, IsType}

-- a sweep, one node at a time
run-one : {A : Type 0} (f : ℕ → List A) (a : ℕ) → run f a 1 ≡ f a
unfolding run
run-one f a = let z : a + 0 ≡ a = omega arith in ap f z

pub run-over : {A : Type 0} (f : ℕ → List A) (a e : ℕ) → e ≤ a → run f a (e - a) ≡ []
unfolding run
run-over f a e h = let z : e - a ≡ 0 = omega arith in ap (run f a) z

pub run_step : {A : Type 0} (f : ℕ → List A) (a q e : ℕ) → a < q → q ≤ e → ((i : ℕ) → a < i → i < q → f i ≡ []) → run f a (e - a) ≡ f a ++ run f q (e - q)
run_step {A} f a q e l h g =
    let z : a + 1 - a ≡ 1 = omega arith in
    run-parts f a (a + 1) e (omega arith) (omega arith)
    ∙ ap (λ (m : List A). m ++ run f (a + 1) (e - (a + 1))) (ap (run f a) z ∙ run-one f a)
    ∙ ap (λ (m : List A). f a ++ m) (run-later f (a + 1) q e (omega arith) h (λ i x y. g i (omega arith) y))

run_none : {A : Type 0} (f : ℕ → List A) (a e : ℕ) → ((i : ℕ) → a ≤ i → i < e → f i ≡ []) → run f a (e - a) ≡ []
run_none f a e g = ⊎_elim (λ (h : a < e). run-later f a e e (omega arith) (omega arith) g ∙ run-over f e e (omega arith)) (λ (h : e ≤ a). run-over f a e h) (lt-or-ge a e)

keep-yes : {A : Type 0} {b : Bool} (f : ℕ → List A) (i : ℕ) → b ≡ true → keep b f i ≡ f i
unfolding keep
keep-yes f i e = rw e

false-is : (b : Bool) → (b ≡ true → ⊥) → b ≡ false
false-is true n = absurd (n refl)
false-is false n = refl

-- commas
pub comma-first : (start i : ℕ) → i ≡ start → comma start i ≡ []
unfolding comma
comma-first start i e = rw (eq-eqb i start e) refl

pub comma-later : (start i : ℕ) → (i ≡ start → ⊥) → comma start i ≡ 44 ∷ []
unfolding comma
comma-later start i n = rw (ne_eqb i start n) refl

-- c is where a child of y may start: no node between them reaches past it
abbrev pub ChildAt : Tree → ℕ → ℕ → Type 0
ChildAt t y c = (q : ℕ) → y < q → q < c → t.end q ≤ c

-- a child among children, by its place
kid_at : {s : List ℕ} {low high mid at : ℕ} (c : ℕ) → Kids s low high mid at → at ≤ c → c < mid → ((q : ℕ) → at ≤ q → q < c → end_of s q ≤ c) → Kid s low high c mid
kid_at c (none e) l h f = absurd (omega arith)
kid_at {s} {low} {high} {mid} {at} c (some k r) l h f =
    ⊎_elim
    (λ (e : at ≡ c). subst (λ (x : ℕ). Kid s low high x mid) e k)
    (λ (g : at < c). let p = k.past in kid_at c r (f at (omega arith) g) h (λ q a b. f q (omega arith) b))
    (eq-or-lt_of_le l)

-- the text of a type, by the case that it is
module _ (t : Tree) (y : ℕ) where
  pub type-none : type_text 0 t y ≡ []
  unfolding type_text
  type-none = refl

  module _ (l : ℕ) (z : 0 < l) where
    pub type-number : t.kind y ≡ 12 → type_text l t y ≡ t.text y
    unfolding type_text
    type-number k = go l z
      where
        go : (l : ℕ) → 0 < l → type_text l t y ≡ t.text y
        go zero h = absurd (omega arith)
        go (suc l) h = rw (eq-eqb (t.kind y) 12 k)

    pub type-quorum : t.kind y ≡ 13 → type_text l t y ≡ t.text (y + 1) ++ ((32 ∷ 111 ∷ 102 ∷ 32 ∷ []) ++ t.text (y + 2))
    unfolding type_text
    type-quorum k = go l z
      where
        go : (l : ℕ) → 0 < l → type_text l t y ≡ t.text (y + 1) ++ ((32 ∷ 111 ∷ 102 ∷ 32 ∷ []) ++ t.text (y + 2))
        go zero h = absurd (omega arith)
        go (suc l) h = rw (ne_eqb (t.kind y) 12 (λ e. omega arith), eq-eqb (t.kind y) 13 k)

    pub type-bare : t.kind y ≡ 11 → t.end y ≤ y + 2 → type_text l t y ≡ t.text (y + 1)
    unfolding type_text
    type-bare k h = go l z
      where
        go : (l : ℕ) → 0 < l → type_text l t y ≡ t.text (y + 1)
        go zero g = absurd (omega arith)
        go (suc l) g = rw (ne_eqb (t.kind y) 12 (λ e. omega arith), ne_eqb (t.kind y) 13 (λ e. omega arith), le-ltb (y + 2) (t.end y) h) (append-nil (t.text (y + 1)))

    pub type-args : t.kind y ≡ 11 → y + 2 < t.end y → type_text l t y ≡ t.text (y + 1) ++ ((60 ∷ []) ++ (args_from (l - 1) t y (y + 2) ++ (62 ∷ [])))
    unfolding type_text arguments args_from
    type-args k h = go l z
      where
        go : (l : ℕ) → 0 < l → type_text l t y ≡ t.text (y + 1) ++ ((60 ∷ []) ++ (args_from (l - 1) t y (y + 2) ++ (62 ∷ [])))
        go zero g = absurd (omega arith)
        go (suc l) g =
            let d : suc l - 1 ≡ l = omega arith in
            let u : y + 2 ≡ suc (suc y) = omega arith in
            rw (ne_eqb (t.kind y) 12 (λ e. omega arith), ne_eqb (t.kind y) 13 (λ e. omega arith), lt-ltb (y + 2) (t.end y) h, d, u) refl

  pub args-done : (l c : ℕ) → t.end y ≤ c → args_from l t y c ≡ []
  unfolding args_from
  args-done l c h = run-over _ c (t.end y) h

-- a signature, piece by piece
pub signature-is : (t : Tree) (e : ℕ) → signature t e ≡ t.text (e + 1) ++ ((40 ∷ []) ++ (params_from t e (e + 1) ++ (41 ∷ [])))
unfolding signature below params_from
signature-is t e = let u : e + 1 ≡ suc e = omega arith in rw u refl

module _ (s : List ℕ) (adm : refusal s ≡ 0) where
  pub tree-past : (i : ℕ) → i < node_count s → (i < (tree s).end i) × ((tree s).end i ≤ node_count s)
  tree-past i h = let N = (given s adm).nodes.node i h in (N.past, N.inside)

  pub tree-nests : (i j : ℕ) → i < node_count s → i < j → j < (tree s).end i → (tree s).end j ≤ (tree s).end i
  tree-nests i j h l g = nests (nodes_of s) (node_count s) (given s adm).nodes i j h l g

  -- the parts of a type
  module _ (y : ℕ) (h : y < node_count s) where
    pub number-ends : (tree s).kind y ≡ 12 → (tree s).end y ≡ y + 1
    number-ends k = leaf (nodes_of s) (node_count s) (given s adm).nodes y h (rw k refl)

    pub named-at : (tree s).kind y ≡ 11 → (y + 2 ≤ (tree s).end y) × ((tree s).kind (y + 1) ≡ 23) × ((tree s).end (y + 1) ≡ y + 2)
    named-at k =
        let t = type-of (nodes_of s) (node_count s) (given s adm).nodes y h k in
        let i = t.head.inside in
        let u = tree-past y h in
        let e = leaf (nodes_of s) (node_count s) (given s adm).nodes (y + 1) (omega arith) (rw (kid_is t.head) refl) in
        (omega arith, kid_is t.head, omega arith)

    pub quorum-at : (tree s).kind y ≡ 13 → ((tree s).end y ≡ y + 3) × ((tree s).kind (y + 1) ≡ 12) × ((tree s).end (y + 1) ≡ y + 2) × ((tree s).kind (y + 2) ≡ 12) × ((tree s).end (y + 2) ≡ y + 3)
    quorum-at k =
        let t = m-of-n (nodes_of s) (node_count s) (given s adm).nodes y h k in
        let i = t.first.inside in
        let u = tree-past y h in
        let e = leaf (nodes_of s) (node_count s) (given s adm).nodes (y + 1) (omega arith) (rw (kid_is t.first) refl) in
        let d : (tree s).end (y + 1) ≡ y + 2 = omega arith in
        let j = t.second.node.inside in
        let k2 : (tree s).kind (y + 2) ≡ 12 = ap (tree s).kind (sym d) ∙ kid_is t.second.node in
        let f = leaf (nodes_of s) (node_count s) (given s adm).nodes (y + 2) (omega arith) (rw k2 refl) in
        let w : (tree s).end (y + 2) ≡ (tree s).end y = ap (tree s).end (sym d) ∙ t.second.whole in
        (omega arith, kid_is t.first, d, k2, omega arith)

    -- the first argument, and the next
    pub child-first : (tree s).kind y ≡ 11 → ChildAt (tree s) y (y + 2)
    child-first k q a b = let n = named-at k in let e : q ≡ y + 1 = omega arith in let d = ap (tree s).end e in let m = n.2 in omega arith

    pub child-next : (c : ℕ) → ChildAt (tree s) y c → y < c → c < (tree s).end y → ChildAt (tree s) y ((tree s).end c)
    child-next c k l g q a d =
        let u = tree-past y h in
        let v = tree-past c (omega arith) in
        ⊎_elim
        (λ (x : q < c). let w = k q a x in omega arith)
        (λ (x : c ≤ q).
        ⊎_elim
        (λ (e : c ≡ q). let w = ap (tree s).end e in omega arith)
        (λ (z : c < q). tree-nests c q (omega arith) z d)
        (eq-or-lt_of_le x))
        (lt-or-ge q c)

    pub argument_is : (tree s).kind y ≡ 11 → (c : ℕ) → ChildAt (tree s) y c → y + 2 ≤ c → c < (tree s).end y → IsType (tree s) c
    argument_is k c f l g =
        let t = type-of (nodes_of s) (node_count s) (given s adm).nodes y h k in
        let n = (named-at k).2 in
        let d = kid_at c (subst (λ (x : ℕ). Kids (nodes_of s) 11 13 ((tree s).end y) x) n t.others) l g (λ q a b. f q (omega arith) b) in
        (d.from, d.to)

    pub args_more : (l c : ℕ) → ChildAt (tree s) y c → y < c → c < (tree s).end y
        → args_from l (tree s) y c ≡ comma (y + 2) c ++ (type_text l (tree s) c ++ args_from l (tree s) y ((tree s).end c))
    unfolding args_from
    args_more l c f a g =
        let u = tree-past y h in
        let v = tree-past c (omega arith) in
        run_step _ c ((tree s).end c) ((tree s).end y) v.0 (tree-nests y c h a g)
        (λ i x z. keep-none _ i (false-is (is_child (tree s) y i) (λ e. let w = (tells-is_child (tree s) y i).so e c a x in omega arith)))
        ∙ ap (λ (m : List ℕ). m ++ args_from l (tree s) y ((tree s).end c)) (keep-yes _ c ((tells-is_child (tree s) y c).back f))
        ∙ append_assoc (comma (y + 2) c) (type_text l (tree s) c) (args_from l (tree s) y ((tree s).end c))

  -- among a part's nodes there is no other part
  part-below : (c : ℕ) → 0 < c → c < node_count s → has ((tree s).kind c) parts ≡ true → (j : ℕ) → c < j → j < (tree s).end c → (tree s).kind j ≡ 10 → ⊥
  unfolding has
  part-below c z h k j a b e =
      let r = (given s adm).nodes.root_end in
      (admitted s adm).parts_flat c j
      (record { after = z; inside = omega arith; kind = (tells-has _ parts).so k })
      (record { after = a; inside = b; kind = (tells-has _ parts).so (rw e refl) })

  is-part : {x : ℕ} → x ≡ 10 → has x parts ≡ true
  unfolding has
  is-part q = rw q refl

  -- p is where a parameter of the entry e starts, or where its parameters end
  pub record AtParams (e p : ℕ) : Type 0 where
    pub entry-is : Entry (nodes_of s) e
    pub rest-is : Kids (nodes_of s) 10 10 entry-is.clauses p

  clause-ok : every (ranged parts 14 21) 46 ≡ true
  unfolding every ranged has
  clause-ok = refl

  statement-ok : every (ranged parts 24 28) 46 ≡ true
  unfolding every ranged has
  statement-ok = refl

  module _ (e : ℕ) (h : e < node_count s) where
    pub entry-name : (tree s).kind e ≡ 9 → (e + 1 < (tree s).end e) × ((tree s).kind (e + 1) ≡ 23) × ((tree s).end (e + 1) ≡ e + 2)
    entry-name k = let E = entry_of (nodes_of s) (node_count s) (given s adm).nodes e h k in (E.name_node.inside, kid_is E.name_node, E.name_ends)

    pub params-start : (tree s).kind e ≡ 9 → AtParams e (e + 2)
    params-start k = let E = entry_of (nodes_of s) (node_count s) (given s adm).nodes e h k in record { entry-is = E; rest-is = E.params_are }

    -- no parameter stands among or behind the clauses
    after-params : (E : Entry (nodes_of s) e) (i : ℕ) → E.clauses ≤ i → i < (tree s).end e → (tree s).kind i ≡ 10 → ⊥
    after-params E i a b k =
        let u = tree-past e h in
        let w = kids-within E.params_are in
        ⊎_elim
        (λ (x : i < E.body).
        let H = kids-hold i E.clauses_are a x in
        held H.child H.from H.upto H.within H.is.inside 14 21 H.is.from H.is.to clause-ok (omega arith) (omega arith) (kids-within E.statements_are))
        (λ (x : E.body ≤ i).
        let H = kids-hold i E.statements_are x b in
        let v = kids-within E.clauses_are in
        let y = H.from in
        held H.child (omega arith) H.upto H.within H.is.inside 24 28 H.is.from H.is.to statement-ok (omega arith) (omega arith) (omega arith))
        (lt-or-ge i E.body)
      where
        held : {mid : ℕ} (c : ℕ) → E.clauses ≤ c → c ≤ i → i < (tree s).end c → c < mid → (low high : ℕ) → low ≤ (tree s).kind c → (tree s).kind c ≤ high → every (ranged parts low high) 46 ≡ true → 10 < low → high < 46 → mid ≤ (tree s).end e → ⊥
        held c f g j m low high x y all lo hi z =
            let u = tree-past e h in
            let w = kids-within E.params_are in
            ⊎_elim
            (λ (d : c ≡ i). let r = ap (tree s).kind d in omega arith)
            (λ (d : c < i). part-below c (omega arith) (omega arith) (sym (into parts low high all ((tree s).kind c) x y (omega arith))) i d j k)
            (eq-or-lt_of_le g)

    pub params-next : (p : ℕ) → AtParams e p → p < (tree s).end e → (tree s).kind p ≡ 10 → AtParams e ((tree s).end p)
    params-next p A l k =
        let w = kids-within A.rest-is in
        ⊎_elim
        (λ (x : p < A.entry-is.clauses). record { entry-is = A.entry-is; rest-is = (kids-next A.rest-is x).1 })
        (λ (x : A.entry-is.clauses ≤ p). absurd (after-params A.entry-is p x l k))
        (lt-or-ge p A.entry-is.clauses)

    pub params-done : (p : ℕ) → AtParams e p → (p < (tree s).end e → (tree s).kind p ≡ 10 → ⊥) → params_from (tree s) e p ≡ []
    unfolding params_from
    params-done p A n =
        let x = kids-within A.entry-is.clauses_are in
        let y = kids-within A.entry-is.statements_are in
        ⊎_elim
        (λ (l : p < A.entry-is.clauses). absurd (n (omega arith) (kid_is (kids-next A.rest-is l).0)))
        (λ (l : A.entry-is.clauses ≤ p). run_none _ p ((tree s).end e) (λ i a b. keep-none _ i (has-not _ 10 (after-params A.entry-is i (omega arith) b))))
        (lt-or-ge p A.entry-is.clauses)

    pub params_more : (p : ℕ) → e < p → p < (tree s).end e → (tree s).kind p ≡ 10
        → params_from (tree s) e p ≡ comma (e + 2) p ++ (type_text 64 (tree s) (p + 2) ++ params_from (tree s) e ((tree s).end p))
    unfolding params_from
    params_more p a g k =
        let u = tree-past e h in
        let v = tree-past p (omega arith) in
        run_step _ p ((tree s).end p) ((tree s).end e) v.0 (tree-nests e p h a g)
        (λ i x z. keep-none _ i (has-not _ 10 (part-below p (omega arith) (omega arith) (is-part k) i x z)))
        ∙ ap (λ (m : List ℕ). m ++ params_from (tree s) e ((tree s).end p)) (keep-yes _ p (has_one _ 10 k))
        ∙ append_assoc (comma (e + 2) p) (type_text 64 (tree s) (p + 2)) (params_from (tree s) e ((tree s).end p))

    -- the Name of the entry is no parameter
    pub params_first : (tree s).kind e ≡ 9 → params_from (tree s) e (e + 1) ≡ params_from (tree s) e (e + 2)
    unfolding params_from
    params_first k =
        let n = entry-name k in
        let z = n.0 in
        run_step _ (e + 1) (e + 2) ((tree s).end e) (omega arith) (omega arith) (λ i x y. absurd (omega arith))
        ∙ ap (λ (m : List ℕ). m ++ params_from (tree s) e (e + 2)) (keep-none _ (e + 1) (has-not _ 10 (λ q. let r = n.1 in omega arith)))

    pub param-type : (p : ℕ) → e < p → p < (tree s).end e → (tree s).kind p ≡ 10 → (p + 2 < (tree s).end p) × ((tree s).kind (p + 2) ≡ 11) × ((tree s).end p ≤ (tree s).end e)
    param-type p a g k =
        let u = tree-past e h in
        let D = param_of (nodes_of s) (node_count s) (given s adm).nodes p (omega arith) k in
        (D.type_node.inside, kid_is D.type_node, tree-nests e p h a g)
