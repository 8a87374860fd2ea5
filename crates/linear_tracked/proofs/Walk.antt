-- The walk over the parts of an entry that notes its rows, a part more; and what part p is lent.
use Prim.Native.Nat.{ℕ, suc, ◌+◌, ◌*◌, ◌<◌}
use mathlib.Core.Path.{◌≡◌, refl, ap, ◌∙◌, sym}
use mathlib.Core.Bool.{Bool, true, false, true≢false}
use mathlib.Core.List.{List, [], ◌∷◌, ◌++◌}
use native.Mathlib.Nat.{sub_self}
use native.Mathlib.Omega.{arith}
use Rattle.image.specs.Pick.{both}
use Rattle.rules.specs.Sweep.{run, keep, has}
use Rattle.rules.specs.Tree.{Tree, tree, «let», param_let, peels}
use Rattle.rules.specs.Vocabulary.{below, rec, only, at_bottom}
use Rattle.rules.specs.Linear.{is_alias, is_row, rule60}
use Rattle.rules.specs.All.{entry_of}
use Rattle.rules.proofs.Admitted.{admitted}
use Rattle.rules.proofs.Entries.{in_entry}
use Rattle.records.specs.Records.{Held}
use Rattle.records.proofs.Sweep.{run_none, run_on, keep-none}
use Rattle.nodes.specs.Shown.{tree_of}
use Rattle.linear_parts.specs.declared.Words.{Words}
use Rattle.linear_parts.specs.Parts.{row_at, rows_of, rows_before, is60, says_row, PartAt, SaysPart}
use Rattle.linear_parts.specs.declared.Part.{Part}
use Rattle.linear_parts.specs.declared.Part.TheVariants.{Row}
use Rattle.linear_parts.proofs.Parts.{part_in}
use Rattle.linear_parts.proofs.Row.{row-few}
use Rattle.linear_tracked.specs.Rows.{at60, Rows, Unrowed}
use Rattle.linear_tracked.proofs.Filled.{rows_as}

module _ (s : List ℕ) (e : ℕ) {n : ℕ} {places first last : List ℕ} where
  pub walk-starts : Rows s [] n places first last → Rows s (rows_before e (e + 1) (tree s)) n places first last
  walk-starts R = rows_as (sym (ap (run (λ i. row_at i (tree s)) (e + 1)) (sub_self (e + 1)) ∙ run_none (λ i. row_at i (tree s)) (e + 1))) R

  -- on to q, past nodes that are no parts
  pub walk-on : {p q : ℕ} → e < p → p < q → ((i : ℕ) → p < i → i < q → has ((tree s).kind i) param_let ≡ false) → Rows s (rows_before e p (tree s) ++ row_at p (tree s)) n places first last → Rows s (rows_before e q (tree s)) n places first last
  walk-on {p} {q} l h z R = rows_as (sym (run_on (λ i. row_at i (tree s)) (e + 1) p q (omega arith) h (λ i a b. keep-none _ i (z i a b)))) R

  pub walk-done : {p : ℕ} → p ≡ (tree s).end e → Rows s (rows_before e p (tree s)) n places first last → Rows s (rows_of e (tree s)) n places first last
  unfolding below
  walk-done {p} f R = let y : e + 1 ≡ suc e = omega arith in rw (f, y) at R

abbrev pub part_at : {nodes : List ℕ} {words : Words} {e n p : ℕ} {places₀ first₀ last₀ places first last : List ℕ} (T : Unrowed nodes words e places₀ first₀ last₀) → e < p → p < (tree_of T.known.view).end e
    → Rows T.known.view.image (rows_before e p (tree_of T.known.view)) n places first last → PartAt nodes words p first
part_at {e = e} T a b R = record {
  known = T.known;
  entry = e;
  is_entry = T.is_entry;
  here = T.here;
  after = a;
  inside = b;
  first_rows = R.first_rows;
}

-- what is seen of it, with its entry
abbrev pub part_held : {X : Type 0} {nodes : List ℕ} {words : Words} {e p : ℕ} {places first last : List ℕ} (T : Unrowed nodes words e places first last) → e < p → p < (tree_of T.known.view).end e → X → Held X e p (p + 1)
part_held T a b x = let W = T.known.view in record { seen = x; entries = entry_of (tree_of W); held = λ i l h. in_entry (tree_of W) (admitted W.image W.shown.admitted) i T.is_entry (omega arith) (omega arith) }

-- a part of which it is said that it declares a row does so, and there is room for the row
pub declares : {nodes : List ℕ} {words : Words} {p : ℕ} {first : List ℕ} {r : Part} → SaysPart nodes words p first r → r ≡ Row → (T : PartAt nodes words p first) → is_row (tree_of T.known.view) p ≡ true
declares s e T = (s T).0 ∙ ap says_row e

pub room : {nodes : List ℕ} {words : Words} {p n : ℕ} {first : List ℕ} {r : Part} → SaysPart nodes words p first r → r ≡ Row → PartAt nodes words p first → 4 * n < p → n < 511
room {n = n} s e T l = row-few T.known.view (part_in T) (declares s e T) n l

-- 60 at a part, from the test
module _ (t : Tree) (e p : ℕ) where
  pub at60-none : is60 e p t ≡ false → at60 p t e ≡ []
  unfolding keep rule60 only
  at60-none d = go (has (t.kind p) «let») d
    where
      go : (c : Bool) → both c (at_bottom t peels (p + 2) (is_alias t e p)) ≡ false → keep c (rule60 t e) p ≡ []
      go true z = rw z
      go false z = refl

  pub at60-one : is60 e p t ≡ true → at60 p t e ≡ rec 60 p 0 ∷ []
  unfolding keep rule60 only
  at60-one d = go (has (t.kind p) «let») d
    where
      go : (c : Bool) → both c (at_bottom t peels (p + 2) (is_alias t e p)) ≡ true → keep c (rule60 t e) p ≡ rec 60 p 0 ∷ []
      go true z = rw z
      go false z = absurd (true≢false (sym z))
