-- The walk over the items: the rows of those before p stand in the table, and none of them has a 60.
use Prim.Native.Nat.{ℕ, ◌+◌, ◌*◌, ◌-◌, ◌<◌, ◌≤◌}
use mathlib.Core.Path.{◌≡◌, ap, ◌∙◌, sym}
use mathlib.Core.Bool.{Bool, false}
use mathlib.Core.List.{List, [], ◌++◌}
use mathlib.Core.Logic.{⊎_elim}
use native.Mathlib.Omega.{arith}
use lib.ListN.{length, length-append}
use Rattle.image.proofs.Decide.{eq-or-ne, lt-or-ge}
use Rattle.rules.specs.Sweep.{run, has}
use Rattle.rules.specs.Tree.{tree, entry as entries}
use Rattle.records.proofs.Sweep.{run_none, run_on, keep-none}
use Rattle.linear_table.specs.Table.{Holds, entry_rows, item_rows, entry60s, item60s, Cut, ItemStands, ItemStops}
use Rattle.linear_table.proofs.Held.{holds_as}

pub record Cutting (s table : List ℕ) (total p : ℕ) : Type 0 where
  pub none : (i : ℕ) → 1 ≤ i → i < p → item60s (tree s) i ≡ []
  pub rows : Holds (run (item_rows s) 1 (p - 1)) table
  pub count : length (run (item_rows s) 1 (p - 1)) ≡ total

pub cutting-starts : {s table : List ℕ} → Holds [] table → Cutting s table 0 1
cutting-starts {s} H = record {
  none = λ i l h. absurd (omega arith);
  rows = holds_as (sym (run_none (item_rows s) 1)) H;
  count = ap length (run_none (item_rows s) 1);
}

module _ {s table : List ℕ} {total p : ℕ} (K : Cutting s table total p) where
  pub cutting-on : {table' : List ℕ} {burned : List Bool} {consumers places first last tallies : List ℕ} {n q : ℕ} → ItemStands s p total table table' burned consumers places first last tallies n
      → 1 ≤ p → p < q → ((i : ℕ) → p < i → i < q → has ((tree s).kind i) entries ≡ false) → Cutting s table' n q
  cutting-on {q = q} I l h z =
      let m : run (item_rows s) 1 (q - 1) ≡ run (item_rows s) 1 (p - 1) ++ item_rows s p = run_on (item_rows s) 1 p q l h (λ i a b. keep-none (entry_rows s) i (z i a b)) in
      record {
        none = λ i a b.
            ⊎_elim (λ (d : i ≡ p). ap (item60s (tree s)) d ∙ I.none)
            (λ (n : i ≡ p → ⊥). ⊎_elim (λ (g : i < p). K.none i a g) (λ (g : p ≤ i). keep-none (entry60s (tree s)) i (z i (omega arith) b)) (lt-or-ge i p)) (eq-or-ne i p);
        rows = holds_as (sym m) (I.more (run (item_rows s) 1 (p - 1)) K.count K.rows);
        count = ap length m ∙ length-append (run (item_rows s) 1 (p - 1)) (item_rows s p) ∙ ap (λ (k : ℕ). k + length (item_rows s p)) K.count ∙ sym I.counted;
      }

  pub cut-stops : {table' : List ℕ} {r : ℕ} → ItemStops s p table table' r → 1 ≤ p → p < (tree s).end 0 → 4 * total < p → p ≤ 2048 → Cut s table' r
  cut-stops I l h f u =
      let z = I.first60.after in
      record {
        upto = p;
        low = l;
        high = omega arith;
        none = K.none;
        rows = rw I.same K.rows;
        few = let c = K.count in omega arith;
        whole = λ e. absurd (omega arith);
        some = λ g. (h, (I.first60.rest, I.first60.is));
      }

  pub cut-done : 1 ≤ p → p ≡ (tree s).end 0 → 4 * total < p → p ≤ 2048 → Cut s table 0
  cut-done l d f u = record {
    upto = p;
    low = l;
    high = omega arith;
    none = K.none;
    rows = K.rows;
    few = let c = K.count in omega arith;
    whole = λ e. d;
    some = λ g. absurd (omega arith);
  }
