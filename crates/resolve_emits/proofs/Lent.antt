-- What each function is lent: an Emit's Name, the whole area, an event in it.
use Prim.Native.Nat.{ℕ, ◌+◌}
use mathlib.Core.Path.{◌≡◌, refl, ap, ◌∙◌, sym}
use mathlib.Core.List.Memᴰ
use mathlib.Core.List.{List}
use native.Mathlib.Omega.{arith}
use Rattle.image.proofs.Given.{given}
use Rattle.rules.specs.Sweep.{has}
use Rattle.rules.specs.Tree.{event}
use Rattle.nodes.specs.Shown.{View, In, Worded, tree_of}
use Rattle.nodes.proofs.Parts.{kind-is, inside, there, past}
use Rattle.nodes.proofs.Shapes.{within}
use Rattle.nodes.proofs.Turns.{named-at}
use Rattle.places.specs.Places.{last_of}
use Rattle.places.proofs.Reading.{last-is}
use Rattle.resolve_emits.specs.Emitted.{IsKind, EventNotes, Emitted}

-- the Name of an Emit
pub emit-name : {nodes : List ℕ} {base m : ℕ} → View nodes base → IsKind nodes base m 26 → Worded nodes base (m + 1)
unfolding has
emit-name W I = named-at W I.0 (omega arith, refl) (I.1 W)

-- the nodes alone; the whole area, and an event in it
module _ {nodes : List ℕ} {base : ℕ} {area last : List ℕ} (T : Emitted nodes base area last) where
  abbrev pub noted_of : EventNotes nodes base last
  noted_of = record { view = T.body.view; lasts = T.lasts }

  abbrev pub area_of : View area 0
  area_of = record { image = T.body.view.image; upto = T.upto; shown = T.shown }

  -- the Emit stands in the whole area too
  pub emit-in : {m : ℕ} → IsKind nodes base m 26 → IsKind area 0 m 26
  emit-in {m} I =
      let W = T.body.view in
      let u = inside W I.0 in
      let v = W.shown.high in
      let e = (given W.image W.shown.admitted).nodes.root_end in
      let z = (past area_of T.root).1 in
      let i : In area 0 m = there area_of (omega arith) (omega arith) in
      (i, λ X. sym (kind-is X i) ∙ kind-is area_of i ∙ I.1 W)

  pub event-in : (w : List ℕ) (v : ℕ) → v ≡ last_of (tree_of T.body.view) event 0 w → (v ≡ 0 → ⊥) → IsKind area 0 v 5
  event-in w v d n =
      let L = (last-is (tree_of T.body.view) event 0 w (omega (arith, n))).is.0 in
      let i : In area 0 v = rw d (within area_of T.root L.after L.inside) in
      (i, λ W. sym (kind-is W i) ∙ kind-is area_of i ∙ ap (tree_of T.body.view).kind d ∙ Memᴰ.eq_of_singleton L.kind)
