-- Clean tables: fresh ones, which the pass is lent; others in their stead.
use Prim.Native.Nat.{ℕ, ◌+◌, ◌*◌}
use mathlib.Core.Path.{◌≡◌}
use mathlib.Core.Bool.{Bool, false}
use mathlib.Core.List.{List}
use native.Mathlib.Omega.{arith}
use lib.ListN.{replicate, length-replicate, get_or-replicate}
use Rattle.image.specs.Admit.{refusal}
use Rattle.rules.specs.Words.{Q_Asset, split, mint}
use Rattle.nodes.specs.Marks.{Marks}
use Rattle.nodes.proofs.Names.{marks-none}
use Rattle.names.specs.declared.Words.{Words as AllWords}
use Rattle.names.specs.Found.{Numbered}
use Rattle.names.specs.Spelled.{WordsOf}
use Rattle.places.proofs.Noting.{places-none}
use Rattle.linear_occurrences.specs.Counted.{Clear, is_reader}
use Rattle.linear_parts.specs.declared.Words.{Words}
use Rattle.linear_rows.specs.Tallies.{Blank}
use Rattle.linear.specs.declared.Tables.{Tables}
use Rattle.linear.specs.Seen.{LookedWords, LinearTables, Clean, fresh_tables}

-- no node has a consumer
pub clear-all : Clear 1 (replicate 2048 0)
clear-all = record { size = length-replicate {A = ℕ} 2048 0; cell = λ i g h. get_or-replicate 2048 i 0 0 h }

pub blank-all : Blank (replicate 1533 0)
blank-all = record {
  size = length-replicate {A = ℕ} 1533 0;
  marks = λ r l. get_or-replicate 1533 (3 * r) 0 0 (omega arith);
  counts = λ r l. get_or-replicate 1533 (3 * r + 1) 0 0 (omega arith);
  relateds = λ r l. get_or-replicate 1533 (3 * r + 2) 0 0 (omega arith);
}

abbrev pub tables-of : {nodes : List ℕ} {all : AllWords} {words : Words} {reader : List Bool} (L : LookedWords nodes all)
    → ((s : List ℕ) → WordsOf s all → Numbered s Q_Asset words.asset × Numbered s split words.split × Numbered s mint words.mint)
    → ((s : List ℕ) → refusal s ≡ 0 → WordsOf s all → Marks s (λ w. false) (replicate 1024 false) → Marks s is_reader reader)
    → LinearTables nodes words reader (replicate 1024 false) (replicate 511 0) (replicate 1024 0) (replicate 1024 0) (replicate 1533 0)
tables-of L n f =
    let s = L.view.image in
    let a = L.view.shown.admitted in
    let N = n s L.words_are in
    record {
      known = record { view = L.view; asset_number = N.0; split_number = N.1; mint_number = N.2 };
      root = L.root;
      reader_marks = f s a L.words_are (marks-none s a);
      clean = record {
        size = length-replicate {A = ℕ} 511 0;
        burned_none = marks-none s a;
        first_none = places-none s a;
        last_none = places-none s a;
        blank = blank-all;
      };
    }

-- the same, of tables with nothing in them
abbrev pub fresh-of : {nodes : List ℕ} {all : AllWords} {words : Words} {reader : List Bool} {t : Tables} → t ≡ fresh_tables → (L : LookedWords nodes all)
    → ((s : List ℕ) → WordsOf s all → Numbered s Q_Asset words.asset × Numbered s split words.split × Numbered s mint words.mint)
    → ((s : List ℕ) → refusal s ≡ 0 → WordsOf s all → Marks s (λ w. false) (replicate 1024 false) → Marks s is_reader reader)
    → LinearTables nodes words reader t.burned t.places t.first t.last t.tallies
fresh-of e L n f =
    let T = tables-of L n f in
    record { known = T.known; root = T.root; reader_marks = T.reader_marks; clean = rw e T.clean }

-- the tables with others that are clean
abbrev pub cleaned : {nodes : List ℕ} {words : Words} {reader burned burned' : List Bool} {places first last tallies places' first' last' tallies' : List ℕ} (T : LinearTables nodes words reader burned places first last tallies)
    → Clean T.known.view.image burned' places' first' last' tallies' → LinearTables nodes words reader burned' places' first' last' tallies'
cleaned T C = record { known = T.known; root = T.root; reader_marks = T.reader_marks; clean = C }
