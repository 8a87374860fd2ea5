-- The statements of an item: where they start, and that one sweep over all of their nodes is the sweep statement by statement.
use Prim.Native.Nat.{ℕ, ◌+◌, ◌-◌, ◌<◌, ◌≤◌}
use mathlib.Core.Path.{◌≡◌, refl, ap, ◌∙◌, sym}
use mathlib.Core.Bool.{true, false, true≢false}
use mathlib.Core.List.{List, [], ◌++◌, append-nil}
use mathlib.Core.Logic.{◌⊎◌, inl, inr, ⊎_elim}
use native.Mathlib.Nat.{eq-or-lt_of_le, sub_self}
use native.Mathlib.Omega.{arith}
use borrow.Author.Tests.{ne_eqb}
use Rattle.image.specs.Pick.{every}
use Rattle.image.specs.Node.{end_of}
use Rattle.image.specs.Admit.{nodes_of, node_count}
use Rattle.image.proofs.Decide.{lt-or-ge}
use Rattle.image.proofs.Row.{Kid, Kids, none, some, kids-within, kids-next}
use Rattle.image.proofs.Children.{Entry, entry_of, genesis-of, has_names, is_leaf, names_of, kid_is, leaf}
use Rattle.rules.specs.Sweep.{run, keep, has}
use Rattle.rules.specs.Standing.{parts}
use Rattle.rules.specs.Vocabulary.{Rec, below, calls}
use Rattle.records.proofs.Sweep.{run_none, run-one, run-same, run-parts, run-sooner, run-below, run-below-later, keep-none, keep_one, has-not}
use Rattle.rules.specs.Tree.{Tree, statement, assign, call}
use Rattle.nodes.specs.Shown.{View, In, tree_of}
use Rattle.nodes.specs.First.{Starts}
use Rattle.nodes.proofs.Ranges.{ranged, into}
use Rattle.nodes.proofs.Parts.{formed, inside, past}
use Rattle.nodes.proofs.Shapes.{no_part, not_in, all_in}

pub no-statement : (k : ℕ) → has k parts ≡ false → has k statement ≡ false
unfolding all_in has
no-statement k e = not_in parts k statement refl e

-- the kinds of statements are 24 to 28
pub out_of : (k : ℕ) → ((j : ℕ) → 24 ≤ j → j ≤ 28 → k ≡ j → ⊥) → has k statement ≡ false
unfolding has
out_of k f =
    simp (
      ne_eqb k 24 (f 24 (omega arith) (omega arith)),
      ne_eqb k 25 (f 25 (omega arith) (omega arith)),
      ne_eqb k 26 (f 26 (omega arith) (omega arith)),
      ne_eqb k 27 (f 27 (omega arith) (omega arith)),
      ne_eqb k 28 (f 28 (omega arith) (omega arith)),
    )

pub statement-in : (k : ℕ) → 24 ≤ k → k ≤ 28 → has k statement ≡ true
unfolding ranged every has
statement-in k l h = sym (into statement 24 28 refl k l h (omega arith))

statement-out : (k : ℕ) → has k statement ≡ true → (k < 24) ⊎ (28 < k) → ⊥
statement-out k e (inl l) = true≢false (sym e ∙ out_of k (λ j a b c. omega arith))
statement-out k e (inr l) = true≢false (sym e ∙ out_of k (λ j a b c. omega arith))

split : {a b : ℕ} → a < b → (a + 1 ≡ b) ⊎ (a + 1 < b)
split {a} {b} l = ⊎_elim (λ (h : a + 1 < b). inr h) (λ (h : b ≤ a + 1). inl (omega arith)) (lt-or-ge (a + 1) b)

pub not-assign : (k : ℕ) → has k statement ≡ false → has k assign ≡ false
unfolding all_in has
not-assign k e = not_in statement k assign refl e

-- no statement stands below a before r
abbrev pub None : Tree → ℕ → ℕ → Type 0
None t a r = (i : ℕ) → a < i → i < r → has (t.kind i) statement ≡ false

pub starts : {part : List ℕ} {b p r to : ℕ} (W : View part b) → p < r → to ≡ (tree_of W).end p → r ≤ to → None (tree_of W) p r → (r < to → has ((tree_of W).kind r) statement ≡ true) → Starts W p r
starts W l e h n f = record { after = l; inside = omega arith; none = n; is = λ g. f (omega arith) }

-- on to the next child
pub none-on : {part : List ℕ} {b a p q : ℕ} (W : View part b) → In part b a → 0 < a → a < p → p < (tree_of W).end a → None (tree_of W) a p → has ((tree_of W).kind p) statement ≡ false → q ≡ (tree_of W).end p → None (tree_of W) a q
none-on {a = a} {p = p} W i z l h n f e j g k =
    ⊎_elim (λ (d : j < p). n j g d)
    (λ (d : p ≤ j). ⊎_elim (λ (d : p ≡ j). ap (λ (x : ℕ). has ((tree_of W).kind x) statement) (sym d) ∙ f) (λ (d : p < j). no-statement _ (no_part W i z l h j d (omega arith))) (eq-or-lt_of_le d))
    (lt-or-ge j p)

-- a node of a run of children stands in one of them
pub cover : {s : List ℕ} {low high mid at : ℕ} → Kids s low high mid at → (i : ℕ) → at ≤ i → i < mid → (k : ℕ) × Kid s low high k mid × (at ≤ k) × (k ≤ i) × (i < end_of s k)
cover (none e) i l h = absurd (omega arith)
cover {s} (some {at} c r) i l h =
    ⊎_elim (λ (g : i < end_of s at). (at, c, omega arith, l, g))
    (λ (g : end_of s at ≤ i). let x = cover r i g h in let p = c.past in let q = x.2 in (x.0, x.1, omega arith, x.3, x.4))
    (lt-or-ge i (end_of s at))

-- two sweeps that agree on each child agree on all
agree : {s : List ℕ} {low high mid at : ℕ} (f g : ℕ → List Rec) → Kids s low high mid at → ((p : ℕ) → at ≤ p → Kid s low high p mid → run f p (end_of s p - p) ≡ run g p (end_of s p - p))
    → run f at (mid - at) ≡ run g at (mid - at)
agree {mid = mid} {at = at} f g (none e) h = rw (e, sub_self mid) (run_none f mid ∙ sym (run_none g mid))
agree {s} {mid = mid} f g (some {at} c r) h =
    let i = c.past in
    let j = c.ends in
    run-parts f at (end_of s at) mid (omega arith) j
    ∙ rw (h at (omega arith) c, agree f g r (λ p l k. h p (omega arith) k)) (sym (run-parts g at (end_of s at) mid (omega arith) j))

module _ {part : List ℕ} {b p r : ℕ} (W : View part b) (i : In part b p) (z : 0 < p) (k : (tree_of W).kind p ≡ 9) (S : Starts W p r) where
  entry : Entry (nodes_of W.image) p
  entry = entry_of (nodes_of W.image) (node_count W.image) (formed W) p (let u = inside W i in let v = W.shown.high in omega arith) k

  -- no statement stands among other children
  never : {low high mid at : ℕ} → Kids (nodes_of W.image) low high mid at → p < at → mid ≤ (tree_of W).end p → high < 24 → at ≤ r → r < mid → has ((tree_of W).kind r) statement ≡ true → ⊥
  never K l m h a g e =
      let x = cover K r a g in
      let c = x.1 in
      let ci = c.inside in
      let ct = c.to in
      let x2 = x.2 in
      ⊎_elim
      (λ (d : x.0 ≡ r). statement-out _ e (inl (let y = ap (tree_of W).kind d in omega arith)))
      (λ (d : x.0 < r). true≢false (sym e ∙ no-statement _ (no_part W {p = x.0} i z (omega arith) (omega arith) r d x.4)))
      (eq-or-lt_of_le x.3)

  body_is : r ≡ entry.body
  body_is =
      let E = entry in
      let n = E.name_node in
      let ne = E.name_ends in
      let c1 = kids-within E.params_are in
      let c2 = kids-within E.clauses_are in
      let c3 = kids-within E.statements_are in
      let a = S.after in
      let s = S.inside in
      ⊎_elim
      (λ (h : E.body < r).
      let q = (kids-next E.statements_are (omega arith)).0 in
      absurd (true≢false (sym (statement-in _ q.from q.to) ∙ S.none E.body (omega arith) h)))
      (λ (h : r ≤ E.body).
      ⊎_elim (λ (d : r ≡ E.body). d)
      (λ (d : r < E.body).
      let e = S.is (omega arith) in
      absurd
      (⊎_elim
      (λ (f : p + 1 ≡ r). statement-out _ e (inl (let y = ap (tree_of W).kind f in let w = n.to in omega arith)))
      (λ (f : p + 1 < r). ⊎_elim (λ (g : r < E.clauses). never E.params_are (omega arith) (omega arith) (omega arith) (omega arith) g e) (λ (g : E.clauses ≤ r). never E.clauses_are (omega arith) (omega arith) (omega arith) g d e) (lt-or-ge r E.clauses))
      (split S.after)))
      (eq-or-lt_of_le h))
      (lt-or-ge E.body r)

  entry-statements : Kids (nodes_of W.image) 24 28 ((tree_of W).end p) r
  entry-statements = rw body_is entry.statements_are

genesis-statements : {part : List ℕ} {b p r : ℕ} (W : View part b) → In part b p → (tree_of W).kind p ≡ 7 → Starts W p r → Kids (nodes_of W.image) 24 28 ((tree_of W).end p) r
genesis-statements {p = p} {r = r} W i k S =
    let K = genesis-of (nodes_of W.image) (node_count W.image) (formed W) p (let u = inside W i in let v = W.shown.high in omega arith) k in
    let s = S.inside in
    ⊎_elim
    (λ (d : p + 1 ≡ r). rw d at K)
    (λ (d : p + 1 < r). let q = (kids-next K (omega arith)).0 in absurd (true≢false (sym (statement-in _ q.from q.to) ∙ S.none (p + 1) (omega arith) d)))
    (split S.after)

-- the statements of an Entry or a Genesis, from its first statement on
pub statements_are : {part : List ℕ} {b p r : ℕ} (W : View part b) → In part b p → 0 < p → ((tree_of W).kind p ≡ 7) ⊎ ((tree_of W).kind p ≡ 9) → Starts W p r → Kids (nodes_of W.image) 24 28 ((tree_of W).end p) r
statements_are W i z (inl k) S = genesis-statements W i k S
statements_are W i z (inr k) S = entry-statements W i z k S

module _ {part : List ℕ} {b p r : ℕ} (W : View part b) (i : In part b p) (z : 0 < p) (K : Kids (nodes_of W.image) 24 28 ((tree_of W).end p) r) (S : Starts W p r) where
  -- Kinds ks that are statements, and kinds ds that are not: what a statement of kind ks contributes, then what the nodes of kind ds in it do, statement by statement, is one sweep from the first statement to the end of the entry.
  module _ (ks ds : List ℕ) (in-ks : (j : ℕ) → has j statement ≡ false → has j ks ≡ false) (apart : (j : ℕ) → 24 ≤ j → j ≤ 28 → has j ds ≡ false) (a d : ℕ → List Rec) where
    abbrev pub each : ℕ → List Rec
    each s = keep (has ((tree_of W).kind s) ks) a s ++ below (tree_of W) ds s d

    abbrev pub here : ℕ → List Rec
    here j = keep (has ((tree_of W).kind j) ks) a j ++ keep (has ((tree_of W).kind j) ds) d j

    one-statement : (q : ℕ) → p < q → Kid (nodes_of W.image) 24 28 q ((tree_of W).end p)
        → run (λ j. keep (has ((tree_of W).kind j) statement) each j) q ((tree_of W).end q - q) ≡ run here q ((tree_of W).end q - q)
    one-statement q l c =
        let u = c.past in
        let v = c.inside in
        let bare : (j : ℕ) → q < j → j < (tree_of W).end q → has ((tree_of W).kind j) statement ≡ false = λ j m n. no-statement _ (no_part W i z l v j m n) in
        run-sooner _ q (q + 1) ((tree_of W).end q) (omega arith) (omega arith) (λ j m n. keep-none each j (bare j (omega arith) n))
        ∙ run-one (λ j. keep (has ((tree_of W).kind j) statement) each j) q
        ∙ keep_one each q (statement-in _ c.from c.to)
        ∙ ap (λ (x : List Rec). keep (has ((tree_of W).kind q) ks) a q ++ x) (sym (run-below (tree_of W) ds d q (q + 1) ((tree_of W).end q) refl refl)
        ∙ run-same (λ j. keep (has ((tree_of W).kind j) ds) d j) here (q + 1) ((tree_of W).end q - (q + 1)) (λ j m n. sym (ap (λ (x : List Rec). x ++ keep (has ((tree_of W).kind j) ds) d j) (keep-none a j (in-ks _ (bare j (omega arith) (omega arith)))))))
        ∙ sym
        (run-parts here q (q + 1) ((tree_of W).end q) (omega arith) (omega arith)
        ∙ ap (λ (x : List Rec). x ++ run here (q + 1) ((tree_of W).end q - (q + 1)))
        (run-one here q ∙ ap (λ (x : List Rec). keep (has ((tree_of W).kind q) ks) a q ++ x) (keep-none d q (apart _ c.from c.to)) ∙ append-nil (keep (has ((tree_of W).kind q) ks) a q)))

    pub flat_in : run here r ((tree_of W).end p - r) ≡ below (tree_of W) statement p each
    flat_in =
        sym (agree _ here K (λ q l c. one-statement q (let s = S.after in omega arith) c))
        ∙ run-below-later (tree_of W) statement each p r S.after S.inside S.none

pub flat : {part : List ℕ} {b p r : ℕ} (W : View part b) (i : In part b p) (z : 0 < p) (k : (tree_of W).kind p ≡ 9) (S : Starts W p r) (ks ds : List ℕ) (in-ks : (j : ℕ) → has j statement ≡ false → has j ks ≡ false) (apart : (j : ℕ) → 24 ≤ j → j ≤ 28 → has j ds ≡ false) (a d : ℕ → List Rec)
    → run (λ j. keep (has ((tree_of W).kind j) ks) a j ++ keep (has ((tree_of W).kind j) ds) d j) r ((tree_of W).end p - r) ≡ below (tree_of W) statement p (λ s. keep (has ((tree_of W).kind s) ks) a s ++ below (tree_of W) ds s d)
flat W i z k S = flat_in W i z (entry-statements W i z k S) S

-- the Calls of an Entry's or a Genesis's statements in one sweep
pub flat-calls : {part : List ℕ} {b p r : ℕ} (W : View part b) → In part b p → 0 < p → ((tree_of W).kind p ≡ 7) ⊎ ((tree_of W).kind p ≡ 9) → Starts W p r → (g : ℕ → List Rec)
    → run (λ c. keep (has ((tree_of W).kind c) call) g c) r ((tree_of W).end p - r) ≡ calls (tree_of W) p g
unfolding has keep calls
flat-calls W i z k S g = flat_in W i z (statements_are W i z k S) S [] call (λ j e. refl) (λ j l h. has-not j 43 (λ d. omega arith)) (λ _. []) g

-- the nodes of a Writes clause are its Names
pub listed-name : {part : List ℕ} {b p : ℕ} (W : View part b) → In part b p → (tree_of W).kind p ≡ 14 → (q : ℕ) → p < q → q < (tree_of W).end p → (tree_of W).kind q ≡ 23
listed-name {p = p} W i k q l h =
    let u = inside W i in
    let v = W.shown.high in
    let m = (past W i).1 in
    let K = names_of (nodes_of W.image) (node_count W.image) (formed W) p (omega arith) (ap has_names k) in
    let x = cover K q (omega arith) h in
    let c = x.1 in
    let n : (tree_of W).kind x.0 ≡ 23 = kid_is c in
    let ci = c.inside in
    let x3 = x.3 in
    let x4 = x.4 in
    let e = leaf (nodes_of W.image) (node_count W.image) (formed W) x.0 (omega arith) (ap is_leaf n) in
    let d : q ≡ x.0 = omega arith in
    ap (tree_of W).kind d ∙ n
