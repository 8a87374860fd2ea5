-- The items that hold statements are the Genesis and the Entry; and the entry that was found for one.
use Prim.Native.Nat.{ℕ, ◌<◌}
use mathlib.Core.Path.{◌≡◌, sym, subst}
use mathlib.Core.Bool.{Bool, true, false}
use mathlib.Core.List.Memᴰ
use mathlib.Core.List.{List}
use mathlib.Core.Logic.{◌⊎◌, inl, inr, ⊎_elim}
use native.Mathlib.Omega.{arith}
use lib.Dec.{eqb}
use Rattle.image.specs.Pick.{pick}
use Rattle.rules.specs.Sweep.{has}
use Rattle.rules.specs.Tree.{bodied}
use Rattle.rules.proofs.Reflect.{tells-has}
use Rattle.nodes.specs.Shown.{View, In, tree_of}
use Rattle.nodes.proofs.Entries.{Holds, bodied-holds}

pub is-bodied : (k : ℕ) → has k bodied ≡ true → (k ≡ 7) ⊎ (k ≡ 9)
is-bodied k b = ⊎_elim inl (λ m. inr (Memᴰ.eq_of_singleton m)) (Memᴰ.cases_cons ((tells-has k bodied).so b))

-- it is a node, or 0; and all nodes of the item have it
pub entry-under : (k item : ℕ) {r n : ℕ} → r ≡ pick (eqb k 9) item 0 → item < n → r < n
entry-under k item {r} {n} d h = subst (λ (x : ℕ). x < n) (sym d) (go (eqb k 9))
  where
    go : (b : Bool) → pick b item 0 < n
    go true = h
    go false = omega arith

pub entry_found : {nodes : List ℕ} (W : View nodes 0) {item r : ℕ} (k : ℕ) (i : In nodes 0 item) (z : 0 < item) → (tree_of W).kind item ≡ k → has k bodied ≡ true → r ≡ pick (eqb k 9) item 0 → Holds W i z r
entry_found W k i z m b d = subst (Holds W i z) (sym d) (bodied-holds W i z k m (is-bodied k b))
