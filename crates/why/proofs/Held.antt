-- The entry that holds a place: the test of an item, and that no item before the one at hand is it.
use Prim.Native.Nat.{ℕ, ◌<◌, ◌≤◌}
use mathlib.Core.Path.{◌≡◌, refl, ap, ◌∙◌, sym}
use mathlib.Core.Bool.{Bool, true, false, true≢false}
use mathlib.Core.List.Memᴰ
use mathlib.Core.List.{List}
use mathlib.Core.Logic.{⊎_elim}
use native.Mathlib.Omega.{arith}
use lib.Dec.{ltb, eqb}
use Rattle.image.specs.Pick.{both}
use Rattle.image.proofs.Decide.{eq-or-ne, lt-or-ge}
use Rattle.rules.specs.Sweep.{has}
use Rattle.rules.specs.Tree.{Tree, entry}
use Rattle.rules.specs.Vocabulary.{Below}
use Rattle.rules.proofs.Reflect.{Tells, tells_both, tells-eqb, tells-ltb, tells-has}
use Rattle.nodes.specs.Shown.{View, In, tree_of}
use Rattle.nodes.proofs.Shapes.{all_in, skips-items}
use Rattle.why.specs.Sought.{NoEntryAt, EntryAt}

-- no Entry before node q holds the place
abbrev pub NoneHolds : Tree → ℕ → ℕ → Type 0
NoneHolds t place q = (e : ℕ) → Below t entry 0 e → e < q → e < place → place < t.end e → ⊥

-- the answer of the test of item p, which ends at q
abbrev Asked : Tree → ℕ → ℕ → ℕ → Bool → Type 0
Asked t place p q b = b ≡ both (eqb (t.kind p) 9) (both (ltb p place) (ltb place q))

tells-holds : (t : Tree) (place p q : ℕ) → Tells (both (eqb (t.kind p) 9) (both (ltb p place) (ltb place q))) ((t.kind p ≡ 9) × ((p < place) × (place < q)))
tells-holds t place p q = tells_both (tells-eqb (t.kind p) 9) (tells_both (tells-ltb p place) (tells-ltb place q))

module _ {nodes : List ℕ} {place p q : ℕ} (W : View nodes 0) (z : 0 < p) (i : In nodes 0 p) (on : q ≡ (tree_of W).end p) {b : Bool} (a : Asked (tree_of W) place p q b) where
  -- it is the one
  pub held_by : b ≡ true → p < (tree_of W).end 0 → EntryAt W place p
  held_by d u =
      let f = (tells-holds (tree_of W) place p q).so (sym a ∙ d) in
      let g = f.1.1 in
      record { is = record { after = z; inside = u; kind = Memᴰ.head f.0 }; here = i; holds = (f.1.0, omega arith) }

  -- it is not
  pub none-holds : b ≡ false → NoneHolds (tree_of W) place p → NoneHolds (tree_of W) place q
  unfolding all_in has
  none-holds d n e E l u v =
      ⊎_elim
      (λ (s : e < p). n e E s u v)
      (λ (s : p ≤ e).
      ⊎_elim
      (λ (r : e ≡ p). true≢false (sym ((tells-holds (tree_of W) place p q).back (ap (tree_of W).kind (sym r) ∙ Memᴰ.eq_of_singleton E.kind, (omega arith, let x = ap (tree_of W).end r in omega arith))) ∙ sym a ∙ d))
      (λ (r : e ≡ p → ⊥). true≢false (sym ((tells-has ((tree_of W).kind e) entry).back E.kind) ∙ skips-items entry refl W i z on e (omega (arith, r)) l))
      (eq-or-ne e p))
      (lt-or-ge e p)

pub none-held : {nodes : List ℕ} {place q : ℕ} (W : View nodes 0) → (tree_of W).end 0 ≤ q → NoneHolds (tree_of W) place q → NoEntryAt W place
none-held W l n = λ e E u v. let h = E.inside in n e E (omega arith) u v
