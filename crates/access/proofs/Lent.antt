-- One entry: its statements lent as their own part, and 51 in them.
use Prim.Native.Nat.{ℕ, ◌-◌, ◌<◌}
use mathlib.Core.Path.{◌≡◌, ◌∙◌, sym}
use mathlib.Core.Bool.{Bool, false}
use mathlib.Core.List.{List}
use native.Mathlib.Omega.{arith}
use Rattle.rules.specs.Sweep.{run}
use lib.ListN.{replicate}
use Rattle.image.specs.Admit.{refusal}
use Rattle.rules.specs.Tree.{assign, call}
use Rattle.rules.specs.Access.{assign_rule, call_rule, statement_rules}
use Rattle.records.proofs.Sweep.{keep_one, has_one, has-not}
use Rattle.nodes.specs.Shown.{View, Shown, In, tree_of}
use Rattle.nodes.specs.Marks.{Marks}
use Rattle.nodes.specs.First.{Starts}
use Rattle.nodes.proofs.Names.{marks-none}
use Rattle.nodes.proofs.Flat.{flat, not-assign}
use Rattle.nodes.specs.State.{State}
use Rattle.names.specs.declared.Words.{Words}
use Rattle.names.specs.Spelled.{MethodsOf, Looked}
use Rattle.access.specs.declared.Tables.{Tables}
use Rattle.access.specs.Seen.{AccessTables, WritingBody, written_in, is_writer, at51, item51}

-- what the scan of the statements is lent
abbrev pub body_of : {nodes part : List ℕ} {tables : Tables} {written marked : List Bool} {f : ℕ} (e : ℕ) (T : AccessTables nodes tables written) → Shown T.view.image part f ((tree_of T.view).end e)
    → Marks T.view.image (written_in (tree_of T.view) e) marked → WritingBody part f tables marked
body_of e T S M = record {
  writing = record {
    view = record { image = T.view.image; upto = (tree_of T.view).end e; shown = S };
    state_marks = T.state_marks;
    entry = e;
    written_marks = M;
  };
  writer_marks = T.writer_marks;
}

-- the tables with another that has no name marked
abbrev pub cleaned : {nodes : List ℕ} {tables : Tables} {written marked : List Bool} (T : AccessTables nodes tables written) → Marks T.view.image (λ w. false) marked → AccessTables nodes tables marked
cleaned T M = record { view = T.view; root = T.root; state_marks = T.state_marks; writer_marks = T.writer_marks; clean = M }

-- one sweep over the nodes of the statements is 51 in the entry
pub entry-51 : {nodes : List ℕ} {e f : ℕ} (W : View nodes 0) → In nodes 0 e → 0 < e → (tree_of W).kind e ≡ 9 → Starts W e f → run (λ p. at51 p (tree_of W) e) f ((tree_of W).end e - f) ≡ item51 e (tree_of W)
unfolding statement_rules
entry-51 {e = e} W i z k S =
    flat W i z k S assign call not-assign (λ j l h. has-not j 43 (λ d. omega arith)) (assign_rule (tree_of W) e) (call_rule (tree_of W) e)
    ∙ sym (keep_one _ e (has_one _ 9 k))

-- what the groups are lent, from what the pass is lent and fresh tables
abbrev pub state-of : {nodes : List ℕ} {words : Words} {state : List Bool} → Looked nodes words state → State nodes 0 state
state-of T = record { view = T.view; state_marks = T.state_marks }

abbrev pub tables-of : {nodes : List ℕ} {words : Words} {tables : Tables} (T : Looked nodes words tables.state.now) → ((s : List ℕ) → refusal s ≡ 0 → MethodsOf s words.methods → Marks s (λ w. false) (replicate 1024 false) → Marks s is_writer tables.writer.now) → AccessTables nodes tables (replicate 1024 false)
tables-of T g =
    let s = T.view.image in
    let a = T.view.shown.admitted in
    record {
      view = T.view;
      root = T.root;
      state_marks = T.state_marks;
      writer_marks = g s a T.words_are.methods_are (marks-none s a);
      clean = marks-none s a;
    }
