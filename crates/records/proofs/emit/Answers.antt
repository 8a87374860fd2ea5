-- `emit` meets its contract: four words, one record more.
use native.Mathlib.Omega.{arith}
use Prim.Native.Nat.{ℕ, ◌*◌}
use mathlib.Core.List.{List}
use lib.ListN.{set}
use native.Mathlib.Numerals.{add-one, add-two, add-three}
use mathlib.Core.Path.{◌∙◌, refl, ap₂}
use Rattle.records.proofs.emit.Goals as goal

pub returns : goal.returns
returns c =
    let a = c.args in
    let k = a.count in
    let store : ℕ → List ℕ → ℕ → List ℕ = λ w o i. set o i w in
    let p1 = c.put.ensures in
    let p2 = c.put-2.ensures ∙ ap₂ (store a.place) p1 (add-one (4 * k)) in
    let p3 = c.put-3.ensures ∙ ap₂ (store a.related) p2 (add-two (4 * k)) in
    let p4 = c.put-4.ensures ∙ ap₂ (store a.entry) p3 (add-three (4 * k)) in
    record { laid = λ _. record { count = refl; words = p4 }; few = omega arith }
