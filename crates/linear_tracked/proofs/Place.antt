-- The place of a row: where it stands, and which node has the row's name.
use Prim.Native.Nat.{ℕ, ◌+◌, ◌<◌, ◌≤◌}
use mathlib.Core.Path.{◌≡◌, refl, ap, ◌∙◌, sym, subst}
use mathlib.Core.List.{List}
use mathlib.Core.Logic.{⊎_elim}
use native.Mathlib.Omega.{arith}
use lib.ListN.{get_or}
use Rattle.image.proofs.Decide.{eq-or-ne}
use Rattle.rules.specs.Tree.{Tree, entry as entries}
use Rattle.rules.specs.Vocabulary.{Below}
use Rattle.rules.specs.All.{entry_of}
use Rattle.rules.proofs.Admitted.{admitted}
use Rattle.rules.proofs.Entries.{in_entry}
use Rattle.nodes.specs.Shown.{In, Worded, tree_of}
use Rattle.nodes.proofs.Shapes.{within, ends-within}
use Rattle.nodes.proofs.Turns.{carries-in}
use Rattle.linear_parts.specs.Parts.{rows_of}
use Rattle.linear_tracked.specs.Rows.{Placed, PlaceOf}
use Rattle.rules.proofs.Linear.{let-place, param-place}
use Rattle.linear_parts.proofs.Lists.{row_at}
use Rattle.linear_parts.proofs.Row.{row-long, row_named}

module _ {nodes : List ℕ} {place : ℕ} (T : PlaceOf nodes place) where
  abbrev t : Tree
  t = tree_of T.view

  pub name-worded : Worded nodes 0 (T.row + 1)
  name-worded = row_named T.view T.here T.row_is

  -- a Name is no Let
  name-other : t.kind (T.row + 1) ≡ 25 → ⊥
  name-other d = ⊎_elim (λ (k : t.kind (T.row + 1) ≡ 23). omega arith) (λ (k : t.kind (T.row + 1) ≡ 35). omega arith) (carries-in T.view name-worded)

  at-let : t.kind T.row ≡ 25 → place ≡ T.row
  at-let k = T.is ∙ let-place t T.row k

  at_name : (t.kind T.row ≡ 25 → ⊥) → place ≡ T.row + 1
  at_name n = T.is ∙ param-place t T.row n

  pub place_in : In nodes 0 place
  place_in =
      ⊎_elim (λ (k : t.kind T.row ≡ 25). subst (In nodes 0) (sym (at-let k)) T.here) (λ (n : t.kind T.row ≡ 25 → ⊥). subst (In nodes 0) (sym (at_name n)) name-worded.here)
      (eq-or-ne (t.kind T.row) 25)

  place-near : (T.row ≤ place) × (place < t.end T.row)
  place-near =
      let l = row-long T.view T.here T.row_is in
      ⊎_elim (λ (k : t.kind T.row ≡ 25). let e = at-let k in (omega arith, omega arith)) (λ (n : t.kind T.row ≡ 25 → ⊥). let e = at_name n in (omega arith, omega arith)) (eq-or-ne (t.kind T.row) 25)

  -- the name is the node after a Let, or the place itself
  pub name-after : t.kind place ≡ 25 → place + 1 ≡ T.row + 1
  name-after d =
      ⊎_elim (λ (k : t.kind T.row ≡ 25). let e = at-let k in omega arith) (λ (n : t.kind T.row ≡ 25 → ⊥). absurd (name-other (ap t.kind (sym (at_name n)) ∙ d)))
      (eq-or-ne (t.kind T.row) 25)

  pub name-here : (t.kind place ≡ 25 → ⊥) → place ≡ T.row + 1
  name-here d = at_name (λ k. d (ap t.kind (at-let k) ∙ k))

-- row k of an entry
abbrev pub row-placed : {nodes places : List ℕ} {n k place : ℕ} (T : Placed nodes n places) → k < n → place ≡ get_or places k 0 → PlaceOf nodes place
row-placed {k = k} T l e =
    let R = row_at (tree_of T.view) T.entry k (let c = T.rows.count in omega arith) in
    record {
      view = T.view;
      row = get_or (rows_of T.entry (tree_of T.view)) k 0;
      here = within T.view T.here R.0.after R.0.inside;
      row_is = R.1;
      is = e ∙ T.rows.place_of k l;
    }

-- its place stands in the entry
pub row-entered : {nodes places : List ℕ} {n : ℕ} (T : Placed nodes n places) → Below (tree_of T.view) entries 0 T.entry → (k : ℕ) → k < n → entry_of (tree_of T.view) (get_or places k 0) ≡ T.entry
row-entered T b k l =
    let W = T.view in
    let R = (row_at (tree_of W) T.entry k (let c = T.rows.count in omega arith)).0 in
    let a = R.after in
    let q = place-near (row-placed T l refl) in
    let z = (ends-within W T.here a R.inside).1 in
    in_entry (tree_of W) (admitted W.image W.shown.admitted) _ b (omega arith) (omega arith)
