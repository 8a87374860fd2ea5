-- What each test that is passed says, over the nodes that are lent.
use Prim.Native.Nat.{ℕ, ◌+◌, ◌-◌, ◌<◌, ◌≤◌}
use native.Mathlib.Omega.{arith}
use mathlib.Core.Path.{◌≡◌, refl, sym, ap, ◌∙◌, subst}
use mathlib.Core.Bool.{Bool, true, false, not}
use mathlib.Core.List.{List}
use borrow.Author.Tests.{eq-eqb, ne_eqb}
use lib.Dec.{eqb}
use Rattle.image.specs.Pick.{every}
use Rattle.image.specs.Text.{text_of}
use Rattle.image.specs.Admit.{names_of, text_part}
use Rattle.image.proofs.Every.{both_false, every-fails, every-all}
use Rattle.image.proofs.Given.{given}
use Rattle.rules.specs.Tree.{Tree}
use Rattle.nodes.specs.Shown.{View, In, tree_of, number}
use Rattle.nodes.proofs.Names.{same-is, same_not}
use Rattle.nodes.proofs.Parts.{there, past, formed}
use Rattle.signature.specs.Alike.{same_node, same_type, signed_as}
use Rattle.resolve_overloads.specs.Entries.{Entries}
use Rattle.signature.specs.Keys.{is_param}
use Rattle.signature.proofs.Reading.{kinds-agree, below-count, entry_first, params-from}
use Rattle.signature.proofs.Nodes.{other-texts}
use Rattle.signature.proofs.Same.{yes-param, no-param}
use Rattle.signature.proofs.Pairs.{Pairing, names-other, pairs_start, pairs_end, pairs-long, pairs-short, pairs-differ, pairs-on}

pub few-nodes : {part : List ℕ} {b p : ℕ} (W : View part b) → In part b p → (p < 2048) × ((tree_of W).end p ≤ 2048)
few-nodes W i = let g = (given W.image W.shown.admitted).header.nodes in let u = below-count W i in let v = (past W i).1 in let w = W.shown.high in (omega arith, omega arith)

-- the contract holds every other node of the part
pub root-holds : {part : List ℕ} {b p : ℕ} (W : View part b) → In part b p → p < (tree_of W).end 0
root-holds W i = let u = below-count W i in let e = (formed W).root_end in omega arith

-- two nodes
module _ {part : List ℕ} {b p q : ℕ} (W : View part b) (i : In part b p) (j : In part b q) where
  texts-other : (number W.image p ≡ number W.image q → ⊥) → (tree_of W).text p ≡ (tree_of W).text q → ⊥
  texts-other n = other-texts W.image W.shown.admitted p q (below-count W i) (below-count W j) n

  texts-same : number W.image p ≡ number W.image q → (tree_of W).text p ≡ (tree_of W).text q
  texts-same e = ap (text_of (names_of W.image) (text_part W.image)) e

  pub node-name : (number W.image p ≡ number W.image q → ⊥) → false ≡ same_node (tree_of W) p q
  unfolding same_node
  node-name n = sym (rw (same_not ((tree_of W).text p) ((tree_of W).text q) (texts-other n)) refl)

  module _ (e : number W.image p ≡ number W.image q) where
    pub node-kind : ((tree_of W).kind p ≡ (tree_of W).kind q → ⊥) → false ≡ same_node (tree_of W) p q
    unfolding same_node
    node-kind n = sym (rw (texts-same e, same-is ((tree_of W).text q), ne_eqb ((tree_of W).kind p) ((tree_of W).kind q) n) refl)

    pub node_end : (tree_of W).kind p ≡ (tree_of W).kind q → eqb ((tree_of W).end p + q) ((tree_of W).end q + p) ≡ same_node (tree_of W) p q
    unfolding same_node
    node_end k = sym (rw (texts-same e, same-is ((tree_of W).text q), eq-eqb ((tree_of W).kind p) ((tree_of W).kind q) k) refl)

-- two types
pub type-size : (t : Tree) (i j : ℕ) → (t.end i + j ≡ t.end j + i → ⊥) → false ≡ same_type t i j
unfolding same_type
type-size t i j n = sym (rw (ne_eqb (t.end i + j) (t.end j + i) n) refl)

module _ (t : Tree) (i j d : ℕ) where
  pub type_node : d < t.end i - i → false ≡ same_node t (i + d) (j + d) → false ≡ same_type t i j
  unfolding same_type
  type_node l f = sym (rw (every-fails (λ x. same_node t (i + x) (j + x)) (t.end i - i) d l (sym f)) (both_false (eqb (t.end i + j) (t.end j + i))))

  pub type-same : t.end i + j ≡ t.end j + i → d ≤ t.end i - i → t.end i - i ≤ d → every (λ x. same_node t (i + x) (j + x)) d ≡ true → true ≡ same_type t i j
  unfolding same_type
  type-same e l h f = sym (rw (eq-eqb (t.end i + j) (t.end j + i) e) (every-all (λ x. same_node t (i + x) (j + x)) (t.end i - i) d l h f))

pub type-nodes : {part : List ℕ} {b i : ℕ} (W : View part b) → In part b i → (d : ℕ) → d < (tree_of W).end i - i → In part b (i + d)
type-nodes W i d l = let u = (past W i).1 in let x = i.0 in there W (omega arith) (omega arith)

-- two entries, by whichever image they are seen
abbrev pub by : {nodes : List ℕ} {g e : ℕ} → Entries nodes g e → View nodes 0 → Entries nodes g e
by E W = record { view = W; there_g = E.there_g; there_e = E.there_e; is_g = kinds-agree W E.view E.there_g ∙ E.is_g; is_e = kinds-agree W E.view E.there_e ∙ E.is_e }

abbrev pub PairAt : {nodes : List ℕ} {g e : ℕ} → Entries nodes g e → ℕ → ℕ → Type 0
PairAt {nodes} {g} {e} E p q = Pairing E.view.image E.view.shown.admitted g e (below-count E.view E.there_g) (below-count E.view E.there_e) E.is_g E.is_e p q

module _ {nodes : List ℕ} {g e : ℕ} (E : Entries nodes g e) where
  pub name-in-g : In nodes 0 (g + 1)
  name-in-g = (entry_first E.view E.there_g E.is_g).0

  pub name-in-e : In nodes 0 (e + 1)
  name-in-e = (entry_first E.view E.there_e E.is_e).0

  pub to-first : (g + 2 ≤ (tree_of E.view).end g) × (e + 2 ≤ (tree_of E.view).end e)
  to-first = ((params-from E.view E.there_g E.is_g).1, (params-from E.view E.there_e E.is_e).1)

  pub pair-names : (number E.view.image (g + 1) ≡ number E.view.image (e + 1) → ⊥) → false ≡ signed_as (tree_of E.view) e g
  pair-names n = sym (names-other E.view.image E.view.shown.admitted g e (below-count E.view E.there_g) (below-count E.view E.there_e) E.is_g E.is_e (texts-other E.view name-in-g name-in-e n))

  pub pair-starts : number E.view.image (g + 1) ≡ number E.view.image (e + 1) → PairAt E (g + 2) (e + 2)
  pair-starts d = pairs_start E.view.image E.view.shown.admitted g e (below-count E.view E.there_g) (below-count E.view E.there_e) E.is_g E.is_e (texts-same E.view name-in-g name-in-e d)

  -- a pair of places, with the tests that were made
  module _ {p q : ℕ} (P : PairAt E p q) (lp : g + 2 ≤ p) (lq : e + 2 ≤ q) where
    -- no parameter is left of g: the signatures are equal if none is left of e
    pub pair-last : is_param (tree_of E.view) g p ≡ false → (r : Bool) → r ≡ is_param (tree_of E.view) e q → not r ≡ signed_as (tree_of E.view) e g
    pair-last x false y = sym (pairs_end _ _ g e _ _ _ _ P lp lq (no-param (tree_of E.view) g p x) (no-param (tree_of E.view) e q (sym y)))
    pair-last x true y = let u = yes-param (tree_of E.view) e q (sym y) in sym (pairs-long _ _ g e _ _ _ _ P lp lq (no-param (tree_of E.view) g p x) u.0 u.1)

    module _ (x : is_param (tree_of E.view) g p ≡ true) where
      pub pair-short : is_param (tree_of E.view) e q ≡ false → false ≡ signed_as (tree_of E.view) e g
      pair-short y = let t = yes-param (tree_of E.view) g p x in sym (pairs-short _ _ g e _ _ _ _ P lp lq t.0 t.1 (no-param (tree_of E.view) e q y))

      module _ (y : is_param (tree_of E.view) e q ≡ true) where
        pub pair-differ : false ≡ same_type (tree_of E.view) (p + 2) (q + 2) → false ≡ signed_as (tree_of E.view) e g
        pair-differ f = let t = yes-param (tree_of E.view) g p x in let u = yes-param (tree_of E.view) e q y in sym (pairs-differ _ _ g e _ _ _ _ P lp lq t.0 t.1 u.0 u.1 (sym f))

        pub pair-on : {next-p next-q : ℕ} → true ≡ same_type (tree_of E.view) (p + 2) (q + 2) → next-p ≡ (tree_of E.view).end p → next-q ≡ (tree_of E.view).end q → PairAt E next-p next-q
        pair-on {next-p} {next-q} f a c =
            let t = yes-param (tree_of E.view) g p x in
            let u = yes-param (tree_of E.view) e q y in
            subst (λ (m : ℕ). PairAt E m next-q) (sym a)
            (subst (λ (m : ℕ). PairAt E ((tree_of E.view).end p) m) (sym c) (pairs-on _ _ g e _ _ _ _ P lp lq t.0 t.1 u.0 u.1 (sym f)))
