-- The row that a place asks about, found in the table of an entry's rows; and what is answered by it.
use Prim.Native.Nat.{ℕ, ◌-◌, ◌<◌, ◌≤◌}
use mathlib.Core.Path.{◌≡◌, refl, ap, ◌∙◌, sym}
use mathlib.Core.Bool.{Bool}
use mathlib.Core.List.{List}
use native.Mathlib.Omega.{arith}
use borrow.Author.Tests.{ne_eqb}
use lib.ListN.{length, replicate, length-replicate}
use Rattle.image.specs.Admit.{refusal, admission_of}
use Rattle.std.specs.Prelude.{Ok, Err}
use Rattle.image.specs.declared.Refusal.{Refusal}
use Rattle.image.specs.Refusals.{number_of}
use Rattle.image.proofs.Refusals.{known, positive, below-nine}
use Rattle.image.proofs.Verdict.{refused-is}
use Rattle.rules.specs.Tree.{Tree, tree}
use Rattle.rules.specs.Words.{Q_Asset, split, mint}
use Rattle.rules.specs.Linear.{place_of}
use Rattle.rules.proofs.Linear.{tells-is_row, row-so, row-kind, row_below}
use Rattle.nodes.specs.Shown.{View, tree_of}
use Rattle.nodes.specs.Marks.{Marks}
use Rattle.nodes.proofs.Admission.{refused-number}
use Rattle.names.specs.Found.{Numbered}
use Rattle.linear_occurrences.specs.Counted.{is_reader}
use Rattle.linear_parts.specs.Parts.{rows_of}
use Rattle.linear_parts.proofs.Lists.{row_at, at_row}
use Rattle.linear_tracked.specs.Rows.{Rows, Unrowed}
use Rattle.linear_tracked.proofs.Filled.{rows_start}
use Rattle.linear.specs.Seen.{LookedWords}
use Rattle.names.specs.declared.Words.{Words as AllWords}
use Rattle.names.specs.Spelled.{WordsOf}
use Rattle.places.proofs.Noting.{places-none}
use Rattle.linear_parts.specs.declared.Words.{Words as Words₃}
use Rattle.reasons.specs.Reasons.{TrackedAt}
use Rattle.reasons.specs.Compute.{reasons}
use Rattle.reasons.specs.Answer.{why_told, why_answer}
use Rattle.reasons.specs.Demands.{NoLot, TellsNothing}
use Rattle.reasons.proofs.Rows.{holds-place, held_by}
use Rattle.reasons.proofs.Found.{image-refused, no_lot, too_short, all_told}
use Rattle.why.specs.declared.Untold.{Untold}
use Rattle.why.specs.declared.Untold.TheVariants as untold
use Rattle.lot_words.specs.Told.{Wrote, Rowed, row_node}
use Rattle.why.specs.Sought.{NoEntryAt, EntryAt, NoRowAt, RowAt}
use Rattle.why.specs.Face.{Explained, untold_by, untold_of, Explains}

-- Which row

-- no entry holds the place
pub no-entry : {nodes : List ℕ} {place : ℕ} (W : View nodes 0) → NoEntryAt W place → NoLot (tree_of W) place
no-entry {place = place} W n f x r = let h = holds-place W.image place f x W.shown.admitted r in n f r.0 h.0 h.1

module _ {nodes : List ℕ} {place e : ℕ} (W : View nodes 0) (A : EntryAt W place e) {n : ℕ} {places first last : List ℕ} (R : Rows W.image (rows_of e (tree_of W)) n places first last) where
  abbrev t : Tree
  t = tree_of W

  -- no row of the entry stands there
  pub no_row : NoRowAt n places place → NoLot t place
  no_row q f x r =
      let h = A.holds in
      let d = held_by W.image place f x W.shown.admitted r e A.is h.0 h.1 in
      let k = at_row t e x (rw d at (row_below t f x r.1)) ((tells-is_row t x).back (row-kind t f x r.1)) in
      let g = k.1 in
      let c = R.count in
      q k.0 (omega arith) (R.place_of k.0 (omega arith) ∙ ap (place_of t) k.2 ∙ sym r.2)

  -- one does
  module _ {row : ℕ} (F : RowAt n places place row) where
    pub in_rows : row ≤ length (rows_of e t)
    in_rows = let c = R.count in let f = F.few in omega arith

    pub its-row : TrackedAt t place e (row_node t e row)
    its-row =
        let c = R.count in
        let f = F.few in
        let l = F.after in
        let k = row_at t e (row - 1) (omega arith) in
        (A.is, row-so t e (row_node t e row) k.0 ((tells-is_row t (row_node t e row)).so k.1), sym F.is ∙ R.place_of (row - 1) (omega arith))

    -- and so it can be told
    abbrev pub rowed-of : {asset : ℕ} {reader : List Bool} → Numbered W.image Q_Asset asset → Marks W.image is_reader reader → Rowed nodes e row asset reader first last
    rowed-of N M = record {
      view = W;
      here = A.here;
      is_entry = A.is;
      asset_number = N;
      reader_marks = M;
      first_rows = R.first_rows;
      last_rows = R.last_rows;
      positive = F.after;
      in_rows = in_rows;
    }

-- what is lent to track the rows of the entry that holds the place
abbrev pub unrowed-of : {nodes : List ℕ} {all : AllWords} {words : Words₃} {place e : ℕ} (T : LookedWords nodes all) → EntryAt T.view place e
    → ((s : List ℕ) → WordsOf s all → Numbered s Q_Asset words.asset × Numbered s split words.split × Numbered s mint words.mint) → Unrowed nodes words e (replicate 511 0) (replicate 1024 0) (replicate 1024 0)
unrowed-of T A f =
    let s = T.view.image in
    let a = T.view.shown.admitted in
    let N = f s T.words_are in
    record {
      known = record { view = T.view; asset_number = N.0; split_number = N.1; mint_number = N.2 };
      is_entry = A.is;
      here = A.here;
      rows = rows_start (length-replicate {A = ℕ} 511 0) (places-none s a) (places-none s a);
    }

-- What is answered

-- the case of a number is the one that has it
untold-known : (r : Untold) → untold_of (untold_by r) ≡ r
untold-known (untold.Image k) = let h = below-nine k in simp (ne_eqb (number_of k) 13 (λ e. omega arith), ne_eqb (number_of k) 10 (λ e. omega arith), known k)
untold-known untold.NoLot = refl
untold-known untold.Room = refl

untold-positive : (r : Untold) → untold_by r ≡ 0 → ⊥
untold-positive (untold.Image k) e = positive k e
untold-positive untold.NoLot e = omega arith
untold-positive untold.Room e = omega arith

abbrev unexplained : Untold → Explained
unexplained r = Err r

module _ (s o : List ℕ) (p : ℕ) where
  pub answer-refused : (k : Untold) → TellsNothing s p o (untold_by k) → Explains s p o (Err k) o
  answer-refused k u = (record { numbers = sym u.0; case = rw u.0 (simp (ne_eqb (untold_by k) 0 (untold-positive k)) (ap unexplained (sym (untold-known k)))) }, sym u.1)

  pub answer-image : (k : Refusal) → admission_of (refusal s) s ≡ Err k → Explains s p o (Err (untold.Image k)) o
  answer-image k e =
      let n = (refused-is (refusal s) s k e).0 in
      let d = refused-number s k e in
      answer-refused (untold.Image k) (rw d (image-refused s o p n))

  module _ (z : refusal s ≡ 0) where
    pub answer-no-lot : NoLot (tree s) p → Explains s p o (Err untold.NoLot) o
    answer-no-lot n = answer-refused untold.NoLot (no_lot s o p z n)

    -- the words of the row were counted; the buffer is too short for them, or they were written
    module _ (e x : ℕ) (r : TrackedAt (tree s) p e x) {none none' : List ℕ} {asked : ℕ} (q : Wrote none 0 (reasons (tree s) e x) none' asked) where
      pub answer-short : length o < asked → Explains s p o (Err untold.Room) o
      answer-short l = let c = q.count in answer-refused untold.Room (too_short s o p z e x r (omega arith))

      pub answer-told : asked ≤ length o → {o' : List ℕ} {k : ℕ} → Wrote o 0 (reasons (tree s) e x) o' k → Explains s p o (Ok k) o'
      answer-told l {o'} {k} w =
          let c = q.count in
          let d = w.count in
          let f : length (reasons (tree s) e x) ≡ k = omega arith in
          let u = all_told s o p z e x r (omega arith) in
          let a : why_answer s p (length o) ≡ why_told k = u.0 ∙ ap why_told f in
          (record { numbers = sym a; case = rw a refl }, w.words ∙ sym u.1)
