-- One sweep both takes and finds: a node is taken only by nodes before it, so that its cell is final when the sweep comes to it.
use Prim.Native.Nat.{ℕ, ◌+◌, ◌-◌, ◌≤◌}
use mathlib.Core.Path.{◌≡◌, refl, ap, ◌∙◌, sym}
use mathlib.Core.Bool.{Bool, true≢false}
use mathlib.Core.List.Memᴰ
use mathlib.Core.List.{List}
use mathlib.Core.Logic.{⊎_elim}
use native.Mathlib.Omega.{arith}
use borrow.Author.Tests.{eq-eqb, ne_eqb}
use lib.ListN.{get_or}
use Rattle.image.specs.Pick.{pick}
use Rattle.image.proofs.Decide.{lt-or-ge}
use Rattle.rules.specs.Tree.{Tree, ident}
use Rattle.rules.specs.Vocabulary.{Below}
use Rattle.nodes.specs.Shown.{In, tree_of}
use Rattle.nodes.proofs.Parts.{inside}
use Rattle.nodes.proofs.Folding.{folded-none, folded_on}
use Rattle.places.specs.declared.Note.TheVariants.{Last}
use Rattle.places.specs.Places.{noting, notes}
use Rattle.places.proofs.Reading.{LastOr, last_or}
use Rattle.std.specs.Prelude.{None}
use Rattle.linear_occurrences.specs.Counted.{Counting, Cells, Ahead, Clear, Finding, consumed_by, takes_node, taker_of}
use Rattle.linear_occurrences.proofs.Cells.{cells_self}
use Rattle.linear_occurrences.proofs.Counted.{untaken, takes-consumes, consumes-takes}

-- from a later node on the table has none
pub clear_later : {p q : ℕ} {r : List ℕ} → p ≤ q → Clear p r → Clear q r
clear_later l C = record { size = C.size; cell = λ i g h. C.cell i (omega arith) h }

module _ (t : Tree) {base : ℕ} where
  -- a sweep starts where the table has none
  pub ahead-starts : {r : List ℕ} → Clear base r → Ahead t base base r
  unfolding notes
  ahead-starts C = record { size = C.size; cell = λ i l h. C.cell i l h ∙ sym (folded-none (λ j u. noting Last u (takes_node t i j) j) 0 base) }

  -- on past node p, which takes its own
  pub ahead-on : {r r' : List ℕ} {p : ℕ} → base ≤ p → Ahead t base p r → ((P : ℕ → ℕ) → Cells P r → Cells (λ i. pick (takes_node t i p) p (P i)) r') → Ahead t base (p + 1) r'
  unfolding notes
  ahead-on {r} {r'} {p} l A f =
      let C : Cells (λ i. pick (takes_node t i p) p (get_or r i 0)) r' = f (λ i. get_or r i 0) (cells_self A.size) in
      record {
        size = C.size;
        cell = λ i g h.
            C.cell i h ∙ ap (pick (takes_node t i p) p) (A.cell i (omega arith) h)
            ∙ sym (folded_on (λ j u. noting Last u (takes_node t i j) j) 0 base p (p + 1) l (omega arith) (λ j g h. absurd (omega arith)));
      }

  -- the node that takes i, or none
  pub taker-is : (i p : ℕ) → base ≤ p → LastOr (takes_node t i) base p (taker_of t i base p)
  taker-is i p l = let e : base + (p - base) ≡ p = omega arith in rw e at (last_or (takes_node t i) base (p - base))

module _ {nodes : List ℕ} {base : ℕ} {reader : List Bool} (T : Counting nodes base reader) where
  abbrev t : Tree
  t = tree_of T.view

  -- none from the part's end on: so the next entry finds the table as this one did
  pub ahead-clear : {r : List ℕ} → Ahead t base T.view.upto r → Clear T.view.upto r
  ahead-clear A = record {
    size = A.size;
    cell = λ i l h.
        let u = T.view.shown.low in
        A.cell i l h ∙ ⊎_elim (λ z. z.0) (λ f. absurd (true≢false (sym f.0.is ∙ untaken T i _ f.0.low f.0.high (λ d. omega arith)))) (taker-is t i T.view.upto (omega arith));
  }

  module _ {p : ℕ} (i : In nodes base p) {r : List ℕ} (A : Ahead t base p r) where
    -- an Ident's cell is final: the nodes from p on take none but later ones
    pub found-ident : t.kind p ≡ 35 → Finding t T.entry p (consumed_by p (get_or r p 0))
    found-ident k = go (get_or r p 0) (rw (sym (A.cell p (omega arith) i.2)) at (taker-is t p p i.0))
      where
        below : Below t ident T.entry p
        below = let a = T.first.after in let h = inside T.view i in let e = T.ends in let l = i.0 in record { after = omega arith; inside = omega arith; kind = Memᴰ.head k }

        go : (v : ℕ) → LastOr (takes_node t p) base p v → Finding t T.entry p (consumed_by p v)
        go v =
            ⊎_elim
            (λ z.
            rw (eq-eqb v 0 z.0)
            (λ c.
            let q = consumes-takes T c.0 p c.1 in
            true≢false (sym q.2 ∙ ⊎_elim (z.1 c.0 q.0) (λ g. untaken T p c.0 q.0 q.1 (λ d. let l = d.0 in omega arith)) (lt-or-ge c.0 p))))
            (λ f. let a = T.first.after in let l = f.0.low in let h = f.0.high in let u = inside T.view i in rw (ne_eqb v 0 (λ e. omega arith)) (refl, takes-consumes T v p l (omega arith) f.0.is below))

  -- another node is no occurrence
  pub found_none : {p : ℕ} → (t.kind p ≡ 35 → ⊥) → Finding t T.entry p None
  found_none n = λ c. n (Memᴰ.eq_of_singleton c.1.0.kind)
