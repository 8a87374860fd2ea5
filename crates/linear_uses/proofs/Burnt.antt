-- The invariant of the walk over the head of an entry that puts the burn marks on the rows.
use Prim.Native.Nat.{ℕ, suc, ◌+◌, ◌-◌, ◌<◌, ◌≤◌}
use mathlib.Core.Path.{◌≡◌, refl, ap, ◌∙◌, sym}
use mathlib.Core.Bool.{Bool, false}
use mathlib.Core.List.{List, [], ◌++◌}
use native.Mathlib.Nat.{sub_self}
use native.Mathlib.Omega.{arith}
use lib.Dec.{eqb}
use lib.ListN.{length}
use Rattle.rules.specs.Sweep.{run, has}
use Rattle.rules.specs.Tree.{Tree, param}
use Rattle.rules.specs.Vocabulary.{alone, below}
use Rattle.rules.specs.Linear.{is_burned}
use Rattle.records.proofs.Sweep.{run_none, run_on, run-sooner, keep-none}
use Rattle.nodes.specs.Shown.{tree_of}
use Rattle.nodes.specs.First.{Until}
use Rattle.nodes.proofs.Until.{one_end, until-rest}
use Rattle.linear_rows.specs.Tallies.{Tallied}
use Rattle.linear_rows.proofs.Tallied.{tallied-as}
use Rattle.linear_uses.specs.Uses.{SpareMarks, burn_at, burns_on, Burning}
use Rattle.linear_uses.proofs.Tally.{keep-few, run-few, tally-spare}

-- a node adds one mark at most
burn-few : (t : Tree) (e : ℕ) (F : List ℕ → ℕ) (r y : ℕ) → length (burn_at t e F r y) ≤ 1
burn-few t e F r y = keep-few (has (t.kind y) param) _ y (keep-few (is_burned t e y) _ y (keep-few (eqb (F (t.text (y + 1))) (r + 1)) alone y (omega arith)))

-- the children of the entry e up to p have been marked
pub record Burnt (nodes : List ℕ) (e asset : ℕ) (burned : List Bool) (rows : List ℕ) (to : ℕ) (s : List ℕ) (p : ℕ) : Type 0 where
  pub low : e + 1 ≤ p
  pub high : p ≤ to
  pub tallied : (T : Burning nodes e asset burned rows) → Tallied (λ r. run (burn_at (tree_of T.on_rows.view) e T.on_rows.row_of r) (e + 1) (p - (e + 1))) (λ r. []) s

module _ {nodes : List ℕ} {e asset : ℕ} {burned : List Bool} {rows : List ℕ} {to : ℕ} where
  pub burnt-starts : {s : List ℕ} → e + 1 ≤ to → Tallied (λ r. []) (λ r. []) s → Burnt nodes e asset burned rows to s (e + 1)
  burnt-starts l t = record {
    low = omega arith;
    high = l;
    tallied = λ T. tallied-as (λ r. sym (ap (run (burn_at (tree_of T.on_rows.view) e T.on_rows.row_of r) (e + 1)) (sub_self (e + 1)) ∙ run_none _ (e + 1))) (λ r. refl) t;
  }

  pub burnt-spare : {s : List ℕ} {p : ℕ} → Burnt nodes e asset burned rows to s p → to ≤ 2048 → Burning nodes e asset burned rows → SpareMarks s
  burnt-spare {p = p} B u T =
      tally-spare (B.tallied T)
      (λ r.
      let f = run-few (burn_at (tree_of T.on_rows.view) e T.on_rows.row_of r) (e + 1) (p - (e + 1)) (burn-few (tree_of T.on_rows.view) e T.on_rows.row_of r) in
      let h = B.high in
      omega arith)

  -- the next child
  pub burnt-on : {s s' : List ℕ} {p q : ℕ} → Burnt nodes e asset burned rows to s p → p < q → q ≤ to
      → ((T : Burning nodes e asset burned rows) (i : ℕ) → p < i → i < q → has ((tree_of T.on_rows.view).kind i) param ≡ false)
      → ((T : Burning nodes e asset burned rows) (M : ℕ → List ℕ) → Tallied M (λ r. []) s → Tallied (λ r. M r ++ burn_at (tree_of T.on_rows.view) e T.on_rows.row_of r p) (λ r. []) s')
      → Burnt nodes e asset burned rows to s' q
  burnt-on {p = p} {q = q} B l h z G = record {
    low = let i = B.low in omega arith;
    high = h;
    tallied = λ T. tallied-as (λ r. sym (run_on (burn_at (tree_of T.on_rows.view) e T.on_rows.row_of r) (e + 1) p q B.low l (λ i a b. keep-none _ i (z T i a b)))) (λ r. refl) (G T _ (B.tallied T));
  }

  -- no parameter stands behind the head
  pub burnt-done : {s : List ℕ} {p : ℕ} → Burnt nodes e asset burned rows to s p → to ≤ p → Until nodes 0 e to 10 → (T : Burning nodes e asset burned rows) → Tallied (burns_on (tree_of T.on_rows.view) e T.on_rows.row_of) (λ r. []) s
  unfolding below
  burnt-done {p = p} B l N T =
      let h = B.high in
      let i = N.inside in
      let d = one_end N T.on_rows.view in
      let y : e + 1 ≡ suc e = omega arith in
      rw y at
      (tallied-as
      (λ r. sym (run-sooner (burn_at (tree_of T.on_rows.view) e T.on_rows.row_of r) (e + 1) p ((tree_of T.on_rows.view).end e) B.low (omega arith) (λ j a c. keep-none _ j (until-rest N T.on_rows.view j (omega arith) (omega arith)))))
      (λ r. refl)
      (B.tallied T))
