-- The table of an image: of an admitted one, with its two last cells; of a refused one.
use Prim.Native.Nat.{ℕ, ◌<◌, ◌≤◌}
use mathlib.Core.Path.{◌≡◌, ◌∙◌, ap, sym}
use mathlib.Core.List.{List}
use native.Mathlib.Omega.{arith}
use lib.ListN.{length, get_or, set, replicate, length-set, length-replicate}
use lib.Seq.{get_or-set_same, get_or-set_other}
use Rattle.image.specs.Admit.{refusal, admission_of}
use Rattle.std.specs.Prelude.{Err}
use Rattle.image.specs.declared.Refusal.{Refusal}
use Rattle.image.specs.Refusals.{number_of}
use Rattle.image.proofs.Verdict.{refused-is}
use Rattle.rules.proofs.Answers.{refusal-most}
use Rattle.nodes.proofs.Admission.{refused-number}
use Rattle.linear_table.specs.Table.{Cut, refused_table, TableOf}
use Rattle.linear_table.proofs.Held.{holds-past}

cut-past : {s table : List ℕ} {r : ℕ} (j v : ℕ) → 2044 ≤ j → Cut s table r → Cut s (set table j v) r
cut-past j v h K = record {
  upto = K.upto;
  low = K.low;
  high = K.high;
  none = K.none;
  rows = holds-past j v h K.rows;
  few = K.few;
  whole = K.whole;
  some = K.some;
}

pub table-made : {s table : List ℕ} {r : ℕ} → refusal s ≡ 0 → Cut s table r → TableOf s (set (set table 2044 r) 2045 0)
table-made {s} {table} {r} e K =
    let l = K.rows.size in
    let a : length (set table 2044 r) ≡ 2046 = length-set table 2044 r ∙ l in
    let b : get_or (set (set table 2044 r) 2045 0) 2044 0 ≡ r = get_or-set_other (set table 2044 r) 2045 2044 0 0 (λ e. omega arith) ∙ get_or-set_same table 2044 r 0 (omega arith) in
    record {
      size = length-set (set table 2044 r) 2045 0 ∙ a;
      refused = get_or-set_same (set table 2044 r) 2045 0 0 (omega arith) ∙ sym e;
      cut = λ z. rw b (cut-past 2045 0 (omega arith) (cut-past 2044 r (omega arith) K));
      no_rows = λ z. absurd (omega arith);
    }

refused-size : (k : ℕ) → length (refused_table k) ≡ 2046
unfolding refused_table
refused-size k = length-set (replicate 2046 0) 2045 k ∙ length-replicate {A = ℕ} 2046 0

refused-cell : (k : ℕ) → get_or (refused_table k) 2045 0 ≡ k
unfolding refused_table
refused-cell k = let l : length (replicate {A = ℕ} 2046 0) ≡ 2046 = length-replicate {A = ℕ} 2046 0 in get_or-set_same (replicate 2046 0) 2045 k 0 (omega arith)

module _ (s : List ℕ) (r : Refusal) (e : admission_of (refusal s) s ≡ Err r) {k : ℕ} (number : k ≡ number_of r) where
  pub number_small : k < 65536
  number_small = let a = refused-number s r e in let b = refusal-most s in omega arith

  pub table-refused : {table : List ℕ} → table ≡ refused_table k → TableOf s table
  table-refused d =
      let n : k ≡ refusal s = number ∙ refused-number s r e in
      record {
        size = ap length d ∙ refused-size k;
        refused = ap (λ (t : List ℕ). get_or t 2045 0) d ∙ refused-cell k ∙ n;
        cut = λ z. absurd ((refused-is (refusal s) s r e).0 z);
        no_rows = λ z. d ∙ ap refused_table n;
      }
