-- Parts of the node area show the tree of the whole: the whole area, a part of a part, and what each node of a part is.
use Prim.Native.Nat.{ℕ, ◌+◌, ◌*◌, ◌-◌, ◌<◌, ◌≤◌}
use mathlib.Core.Path.{◌≡◌, ap, ◌∙◌}
use mathlib.Core.List.{List}
use mathlib.Core.Logic.{◌⊎◌}
use native.Mathlib.Omega.{arith}
use lib.ListN.{get_or}
use Rattle.image.specs.Node.{kind_of, name_of, end_of}
use Rattle.image.specs.Text.{slice}
use Rattle.image.specs.Admit.{refusal, node_count, name_count, nodes_of}
use Rattle.image.specs.Forms.{FormsTree}
use Rattle.image.proofs.Given.{given}
use Rattle.image.proofs.Nest.{nests}
use Rattle.image.proofs.Lent.{lent-kind, lent-end, lent-name, lent-bytes}
use Rattle.rules.specs.Tree.{tree}
use Rattle.nodes.specs.Shown.{Shown, View, In, tree_of, number}
use Rattle.nodes.specs.Table.{Table}
use Rattle.nodes.proofs.Names.{in-range}

pub whole : (s : List ℕ) → refusal s ≡ 0 → Shown s (nodes_of s) 0 (node_count s)
whole s e = record {
  admitted = e;
  low = omega arith;
  high = omega arith;
  bytes = let u = (given s e).node_bytes in omega arith;
  closed = λ p l h. ((given s e).nodes.node p h).inside;
  kinds = λ p l h. let z : p - 0 ≡ p = omega arith in ap (kind_of (nodes_of s)) z;
  ends = λ p l h. let z : p - 0 ≡ p = omega arith in ap (end_of (nodes_of s)) z;
  numbers = λ p l h. let z : p - 0 ≡ p = omega arith in ap (name_of (nodes_of s)) z;
}

-- the part of a part from node a up to node e
lent : (s part : List ℕ) (b u a e : ℕ) → Shown s part b u → b ≤ a → a ≤ e → e ≤ u → ((p : ℕ) → a ≤ p → p < e → (tree s).end p ≤ e)
    → Shown s (slice part (16 * (a - b)) (16 * (e - b))) a e
lent s part b u a e S l h g f = record {
  admitted = S.admitted;
  low = h;
  high = let u = S.high in omega arith;
  bytes = let u = S.bytes in let v = lent-bytes part (a - b) (e - b) (omega arith) (omega arith) in omega arith;
  closed = f;
  kinds = λ p j i. let z : a - b + (p - a) ≡ p - b = omega arith in lent-kind part (a - b) (e - b) (p - a) (omega arith) ∙ ap (kind_of part) z ∙ S.kinds p (omega arith) (omega arith);
  ends = λ p j i. let z : a - b + (p - a) ≡ p - b = omega arith in lent-end part (a - b) (e - b) (p - a) (omega arith) ∙ ap (end_of part) z ∙ S.ends p (omega arith) (omega arith);
  numbers = λ p j i. let z : a - b + (p - a) ≡ p - b = omega arith in lent-name part (a - b) (e - b) (p - a) (omega arith) ∙ ap (name_of part) z ∙ S.numbers p (omega arith) (omega arith);
}

module _ {part : List ℕ} {b : ℕ} (W : View part b) where
  pub formed : FormsTree (nodes_of W.image) (node_count W.image)
  formed = (given W.image W.shown.admitted).nodes

  pub few : (W.upto ≤ 2048) × (name_count W.image ≤ 1024)
  few = let g = (given W.image W.shown.admitted).header in let h = g.nodes in let i = W.shown.high in (omega arith, g.names)

  pub inside : {p : ℕ} → In part b p → p < W.upto
  inside i = let u = W.shown.bytes in let v = W.shown.low in omega arith

  pub there : {p : ℕ} → b ≤ p → p < W.upto → In part b p
  there l h = let u = W.shown.bytes in let f = few in (l, omega arith, omega arith)

  -- a node ends past itself, and in the part
  pub past : {p : ℕ} → In part b p → (p < (tree_of W).end p) × ((tree_of W).end p ≤ W.upto)
  past {p} i = let h = inside i in ((formed.node p (let g = W.shown.high in omega arith)).past, W.shown.closed p i.0 h)

  module _ {p : ℕ} (i : In part b p) where
    pub kind-is : kind_of part (p - b) ≡ (tree_of W).kind p
    kind-is = W.shown.kinds p i.0 (inside i)

    pub end_is : end_of part (p - b) ≡ (tree_of W).end p
    end_is = W.shown.ends p i.0 (inside i)

    pub number_is : name_of part (p - b) ≡ number W.image p
    number_is = W.shown.numbers p i.0 (inside i)

    -- the number of a Name or an Ident
    pub ranged : ((tree_of W).kind p ≡ 23) ⊎ ((tree_of W).kind p ≡ 35) → (1 ≤ number W.image p) × (number W.image p ≤ name_count W.image) × (name_count W.image ≤ 1024)
    ranged h = in-range W.image W.shown.admitted p (let u = inside i in let v = W.shown.high in omega arith) h

    -- what a table says of the word of a Name or an Ident
    pub tells : {A : Type 0} {d : A} {F : List ℕ → A} {r : List A} → Table d W.image F r → ((tree_of W).kind p ≡ 23) ⊎ ((tree_of W).kind p ≡ 35) → get_or r (number W.image p - 1) d ≡ F ((tree_of W).text p)
    tells T h = let r = ranged h in T.mark _ r.0 r.1

-- the part from a node f of node p's range to p's end holds the whole of each node in it
pub lent-shown : {part : List ℕ} {b p f : ℕ} (W : View part b) → In part b p → p < f → f ≤ (tree_of W).end p → Shown W.image (slice part (16 * (f - b)) (16 * ((tree_of W).end p - b))) f ((tree_of W).end p)
lent-shown {part} {b} {p} {f} W i g h =
    let j = i.0 in
    let k = inside W i in
    let u = W.shown.high in
    let v = (past W i).1 in
    lent W.image part b W.upto f ((tree_of W).end p) W.shown (omega arith) h v (λ q l m. nests (nodes_of W.image) (node_count W.image) (formed W) p q (omega arith) (omega arith) m)
