-- What becomes of an item: it is no Entry, it has a 60, or its rows stand in the table.
use Prim.Native.Nat.{ℕ, ◌+◌, ◌*◌, ◌<◌}
use mathlib.Core.Path.{◌≡◌, refl, ap, ◌∙◌, sym}
use mathlib.Core.Bool.{Bool}
use mathlib.Core.List.{List, [], ◌++◌, append-nil}
use native.Mathlib.Omega.{arith}
use lib.ListN.{length}
use Rattle.rules.specs.Tree.{tree}
use Rattle.records.proofs.Sweep.{keep-none, keep_one, has_one, has-not}
use Rattle.linear_occurrences.specs.Counted.{Clear}
use Rattle.linear.specs.Seen.{Clean}
use Rattle.linear_table.specs.declared.Row.{Row}
use Rattle.linear_table.specs.Table.{Holds, entry_rows, item_rows, entry60s, item60s, First60, ItemStands, ItemStops}
use Rattle.linear_table.proofs.Held.{holds_as}

-- what stands at an Entry
module _ (s : List ℕ) (p : ℕ) (k : (tree s).kind p ≡ 9) where
  sixties : item60s (tree s) p ≡ entry60s (tree s) p
  sixties = keep_one (entry60s (tree s)) p (has_one ((tree s).kind p) 9 k)

  rows_of : item_rows s p ≡ entry_rows s p
  rows_of = keep_one (entry_rows s) p (has_one ((tree s).kind p) 9 k)

pub item-stops : {s : List ℕ} {p : ℕ} {table : List ℕ} {alias : ℕ} → (tree s).kind p ≡ 9 → First60 (entry60s (tree s) p) alias → ItemStops s p table table alias
item-stops {s} {p} k F = record { first60 = record { after = F.after; rest = F.rest; is = sixties s p k ∙ F.is }; same = refl }

module _ {s : List ℕ} {p total : ℕ} {table : List ℕ} {burned : List Bool} {consumers places first last tallies : List ℕ} where
  pub item-other : ((tree s).kind p ≡ 9 → ⊥) → Clean s burned places first last tallies → Clear ((tree s).end p) consumers → 4 * total < (tree s).end p
      → ItemStands s p total table table burned consumers places first last tallies total
  item-other n C F h = record {
    none = keep-none (entry60s (tree s)) p (has-not ((tree s).kind p) 9 n);
    more = λ rows f H. holds_as (sym (ap (λ (l : List Row). rows ++ l) none ∙ append-nil rows)) H;
    counted = let z : length (item_rows s p) ≡ 0 = ap length none in omega arith;
    room = h;
    clean = C;
    clear = F;
  }
    where
      none : item_rows s p ≡ []
      none = keep-none (entry_rows s) p (has-not ((tree s).kind p) 9 n)

  module _ (k : (tree s).kind p ≡ 9) where
    pub item-stood : {table' : List ℕ} {n : ℕ} → entry60s (tree s) p ≡ [] → ((rows : List Row) → length rows ≡ total → Holds rows table → Holds (rows ++ entry_rows s p) table')
        → n ≡ length (entry_rows s p) → 4 * (total + n) < (tree s).end p → Clean s burned places first last tallies → Clear ((tree s).end p) consumers
        → ItemStands s p total table table' burned consumers places first last tallies (total + n)
    item-stood {n = n} z G c h C D = record {
      none = sixties s p k ∙ z;
      more = λ rows f H. holds_as (ap (λ (l : List Row). rows ++ l) (sym (rows_of s p k))) (G rows f H);
      counted = let d : length (item_rows s p) ≡ length (entry_rows s p) = ap length (rows_of s p k) in omega arith;
      room = h;
      clean = C;
      clear = D;
    }
