-- The tables between entries: what they give for an entry, and the entry's records.
use Prim.Native.Nat.{ℕ, ◌<◌}
use mathlib.Core.Path.{◌≡◌, ap, ◌∙◌, sym}
use mathlib.Core.Bool.{Bool}
use mathlib.Core.List.{List, ◌++◌, Memᴰ}
use native.Mathlib.Omega.{arith}
use Rattle.rules.specs.Sweep.{run}
use Rattle.rules.specs.Tree.{tree, «let»}
use Rattle.rules.specs.Vocabulary.{Rec, below}
use Rattle.rules.specs.Linear.{rule60, linear_entry}
use Rattle.rules.specs.All.{entry_of}
use Rattle.records.specs.Records.{Laid}
use Rattle.records.proofs.Laws.{laid-join, laid_as, laid-entered}
use Rattle.records.proofs.Sweep.{keep_one, has_one}
use Rattle.nodes.specs.Shown.{View, In, tree_of}
use Rattle.nodes.proofs.Parts.{inside, formed}
use Rattle.linear_parts.specs.declared.Words.{Words}
use Rattle.linear_parts.specs.Parts.{rows_of}
use Rattle.linear_tracked.specs.Rows.{Rows, Unrowed, Placed}
use Rattle.linear_tracked.proofs.Filled.{rows_start}
use Rattle.linear_tracked.proofs.Place.{row-entered}
use Rattle.linear_rows.specs.Tallies.{Tallied, judged_at}
use Rattle.linear_rows.proofs.Judged.{judged-place}
use Rattle.linear.specs.Seen.{RowsNoted, LinearTables, item_linear, row_marks, row_uses}
use Rattle.linear.proofs.Judged.{rows-judged}

-- the kind of a node as it was read
pub kind-of : {nodes : List ℕ} (e : ℕ) {k n : ℕ} → ((W : View nodes 0) → k ≡ (tree_of W).kind e) → k ≡ n → (W : View nodes 0) → (tree_of W).kind e ≡ n
kind-of e f d W = sym (f W) ∙ d

-- the records of an entry: the 60s, then the rows in order
item-is : (s : List ℕ) (e : ℕ) → (tree s).kind e ≡ 9 → {n : ℕ} {places first last tallies : List ℕ} → Rows s (rows_of e (tree s)) n places first last → Tallied (row_marks (tree s) e) (row_uses (tree s) e) tallies
    → below (tree s) «let» e (rule60 (tree s) e) ++ run (judged_at places tallies) 0 n ≡ item_linear e (tree s)
unfolding linear_entry
item-is s e k R C = ap (λ (l : List Rec). below (tree s) «let» e (rule60 (tree s) e) ++ l) (rows-judged e R C) ∙ sym (keep_one (linear_entry (tree s)) e (has_one ((tree s).kind e) 9 k))

module _ {nodes : List ℕ} {words : Words} {reader burned : List Bool} {places first last tallies : List ℕ} (T : LinearTables nodes words reader burned places first last tallies) where
  pub under-root : {e : ℕ} → In nodes 0 e → e < (tree_of T.known.view).end 0
  under-root i = let W = T.known.view in let a = inside W i in let b = W.shown.high in let d = (formed W).root_end in omega arith

  -- an entry before its rows are tracked; the places of its rows; the rows noted by name
  abbrev pub unrowed-of : {e : ℕ} → (tree_of T.known.view).kind e ≡ 9 → In nodes 0 e → 0 < e → Unrowed nodes words e places first last
  unrowed-of k i z = record {
    known = T.known;
    is_entry = record { after = z; inside = under-root i; kind = Memᴰ.head k };
    here = i;
    rows = rows_start T.clean.size T.clean.first_none T.clean.last_none;
  }

  abbrev pub placed_of : {e n : ℕ} {places' first' last' : List ℕ} → In nodes 0 e → Rows T.known.view.image (rows_of e (tree_of T.known.view)) n places' first' last' → Placed nodes n places'
  placed_of {e} {first' = first'} {last' = last'} i R = record { view = T.known.view; entry = e; here = i; first = first'; last = last'; rows = R }

  module _ {e n : ℕ} {places' first' last' : List ℕ} (k : (tree_of T.known.view).kind e ≡ 9) (R : Rows T.known.view.image (rows_of e (tree_of T.known.view)) n places' first' last') where
    abbrev pub filled_of : RowsNoted nodes words e reader burned first' last' tallies
    filled_of = record {
      known = T.known;
      is_entry = k;
      reader_marks = T.reader_marks;
      burned_none = T.clean.burned_none;
      few = let a = R.few in let b = R.count in omega arith;
      first_rows = R.first_rows;
      last_rows = R.last_rows;
      blank = T.clean.blank;
    }

    -- what is judged of the rows stands in the entry
    rows-entered : (tallies' : List ℕ) → In nodes 0 e → 0 < e → (r : Rec) → Memᴰ r (run (judged_at places' tallies') 0 n) → entry_of (tree_of T.known.view) r.place ≡ e
    rows-entered tallies' i z r m = let q = judged-place places' tallies' n r m in ap (entry_of (tree_of T.known.view)) q.2 ∙ row-entered (placed_of i R) (unrowed-of k i z).is_entry q.0 q.1

    pub item-laid : {tallies' o o' o'' : List ℕ} {m m' m'' : ℕ} → In nodes 0 e → 0 < e → Tallied (row_marks (tree_of T.known.view) e) (row_uses (tree_of T.known.view) e) tallies'
        → Laid (entry_of (tree_of T.known.view)) o m (below (tree_of T.known.view) «let» e (rule60 (tree_of T.known.view) e)) o' m' → Laid (λ _. e) o' m' (run (judged_at places' tallies') 0 n) o'' m''
        → Laid (entry_of (tree_of T.known.view)) o m (item_linear e (tree_of T.known.view)) o'' m''
    item-laid {tallies'} i z C a b = laid_as (item-is T.known.view.image e k R C) (laid-join a (laid-entered (rows-entered tallies' i z) b))
