-- The entry of the nodes of an item: the item itself, if it is an Entry, or none. So a part of the nodes that is lent, or a child of the item, stands in it, or in none.
use Prim.Native.Nat.{ℕ, ◌+◌, ◌-◌, ◌<◌, ◌≤◌}
use mathlib.Core.Path.{◌≡◌, refl, ◌∙◌, subst}
use mathlib.Core.Bool.{true}
use mathlib.Core.List.{List, ◌∷◌, [], Memᴰ}
use native.Mathlib.Omega.{arith}
use mathlib.Core.Logic.{◌⊎◌, ⊎_elim}
use lib.Dec.{eqb}
use Rattle.image.specs.Pick.{pick}
use Rattle.image.specs.Node.{end_of}
use Rattle.rules.specs.Tree.{entry}
use Rattle.rules.specs.Vocabulary.{Rec, Below}
use Rattle.rules.specs.All.{entry_of}
use Rattle.rules.specs.Standing.{apart, parts}
use Rattle.rules.proofs.Admitted.{admitted}
use Rattle.rules.proofs.Ranges.{subset, disjoint}
use Rattle.rules.proofs.Entries.{in_entry, outside}
use Rattle.records.specs.Records.{Added}
use Rattle.records.proofs.Laws.{added-by}
use Rattle.nodes.specs.Shown.{View, Shown, In, tree_of}
use Rattle.nodes.specs.First.{Head}
use Rattle.nodes.specs.Entries.{HeldPart, HeldNode}
use Rattle.nodes.proofs.Parts.{inside, formed}
use Rattle.nodes.proofs.Shapes.{all_in, ends-within}
use Rattle.nodes.proofs.Steps.{Walk, at-kind}
use Rattle.nodes.proofs.Head.{head-is, head-end, head_first, head-on}

-- the end of a node, as its bytes have it
pub end-bytes : {nodes : List ℕ} (W : View nodes 0) (c : ℕ) → c < W.upto → end_of nodes c ≡ (tree_of W).end c
end-bytes {nodes} W c h = let q : c - 0 ≡ c = omega arith in subst (λ (n : ℕ). end_of nodes n ≡ (tree_of W).end c) q (W.shown.ends c (omega arith) h)

module _ {nodes : List ℕ} (W : View nodes 0) {e : ℕ} (i : In nodes 0 e) (z : 0 < e) where
  -- all nodes of the item have the entry w
  abbrev pub Holds : ℕ → Type 0
  Holds w = (p : ℕ) → e ≤ p → p < (tree_of W).end e → entry_of (tree_of W) p ≡ w

  stands : {ks : List ℕ} → Memᴰ ((tree_of W).kind e) ks → Below (tree_of W) ks 0 e
  stands m = let h = inside W i in let r = (formed W).root_end in let u = W.shown.high in record { after = z; inside = omega arith; kind = m }

  pub entry-holds : (tree_of W).kind e ≡ 9 → Holds e
  entry-holds k p l h = in_entry (tree_of W) (admitted W.image W.shown.admitted) p (stands (Memᴰ.head k)) l h

  -- a field, an event, a Genesis or an Invariant
  pub none-holds : (k : ℕ) → subset (k ∷ []) apart ≡ true → disjoint (k ∷ []) entry ≡ true → (tree_of W).kind e ≡ k → Holds 0
  none-holds k q d m p l h = outside (tree_of W) (admitted W.image W.shown.admitted) p q d (stands {ks = k ∷ []} (Memᴰ.head m)) l h

  -- an item that holds statements
  pub bodied-holds : (k : ℕ) → (tree_of W).kind e ≡ k → (k ≡ 7) ⊎ (k ≡ 9) → Holds (pick (eqb k 9) e 0)
  bodied-holds k m o = ⊎_elim (λ h. rw h (none-holds 7 refl refl (m ∙ h))) (λ h. rw h (entry-holds (m ∙ h))) o

  module _ {X : Type 0} {w : ℕ} (x : X) (all : Holds w) where
    -- its statements, lent as their own part
    abbrev pub part_held : {part : List ℕ} {first : ℕ} → Shown W.image part first ((tree_of W).end e) → e < first → HeldPart part first w X
    part_held P l = record { seen = x; entries = entry_of (tree_of W); held = λ p a b. let y = P.bytes in let u = P.low in all p (omega arith) (omega arith) }

    -- the item; a child of it
    abbrev pub node-held : HeldNode nodes e w X
    node-held = record { seen = x; entries = entry_of (tree_of W); held = λ p a b. let d = end-bytes W e (inside W i) in all p a (omega arith) }

    abbrev pub child-held : {c : ℕ} → e < c → c < (tree_of W).end e → HeldNode nodes c w X
    child-held {c} l h =
        let g = ends-within W i l h in
        let v = inside W i in
        record { seen = x; entries = entry_of (tree_of W); held = λ p a b. let d = end-bytes W c (let k = W.shown.closed e (omega arith) v in omega arith) in let n = g.1 in all p (omega arith) (omega arith) }

-- an Entry: its statements, lent as their own part; a child of it, in its head; on to the next child, where one was told the entry
module _ {nodes : List ℕ} {e to : ℕ} (H : Head nodes 0 e to) where
  pub head-holds : (W : View nodes 0) → Holds W H.here H.positive e
  head-holds W = entry-holds W H.here H.positive (head-is H W)

  abbrev pub head-part : {X : Type 0} {part : List ℕ} (W : View nodes 0) (x : X) → Shown W.image part to ((tree_of W).end e) → HeldPart part to e X
  head-part W x P = part_held W H.here H.positive x (head-holds W) P (head_first H W).after

  abbrev pub head-child : {X : Type 0} {p : ℕ} (W : View nodes 0) (x : X) → e < p → p < to → HeldNode nodes p e X
  head-child W x l h = child-held W H.here H.positive x (head-holds W) l (let d = head-end H W in omega arith)

  pub head-told : {X : Type 0} {view : X → View nodes 0} {ks : List ℕ} {f : X → ℕ → List Rec} {most : ℕ} {o₀ o : List ℕ} {k₀ k p q : ℕ} → Walk view ks f (e + 1) to most o₀ k₀ o k p → all_in ks parts ≡ true → p < to → ((W : View nodes 0) → q ≡ (tree_of W).end p)
      → {o' : List ℕ} {k' : ℕ} → Added (λ (h : HeldNode nodes p e X). h.entries) (λ h. at-kind view ks f h.seen p) most o k o' k' → Walk view ks f (e + 1) to most o₀ k₀ o' k' q
  head-told {view = view} w al h d a = let l = w.sweep.low in head-on H w al h d (added-by (λ x. head-child (view x) x (omega arith) h) (λ x. refl) a)

-- a node of a part that stands in the entry e
pub held_in : {X : Type 0} (part : List ℕ) {b e p : ℕ} (h : HeldPart part b e X) → In part b p → h.entries p ≡ e
held_in part {p = p} h i = let l = i.0 in let u = i.1 in h.held p l (omega arith)
