-- What is looked up once is what every pass asks for.
use Prim.Native.Nat.{ℕ}
use mathlib.Core.Bool.{Bool, false}
use mathlib.Core.List.{List}
use lib.ListN.{replicate}
use Rattle.image.specs.Admit.{node_count}
use Rattle.image.specs.declared.Image.{Image}
use Rattle.rules.specs.Model.{is_state}
use Rattle.nodes.specs.Shown.{Shown, Admitted}
use Rattle.nodes.specs.Marks.{Made}
use Rattle.nodes.proofs.Names.{marks-none}
use Rattle.nodes.proofs.Heads.{root-of, view_of}
use Rattle.names.specs.declared.Words.{Words}
use Rattle.names.specs.Spelled.{WordsOf, Looked}
use Rattle.linear.specs.Seen.{LookedWords}
use Rattle.passes.specs.Lookups.{LookedUp}

abbrev pub by-words : {nodes : List ℕ} {words : Words} {state : List Bool} → Looked nodes words state → LookedWords nodes words
by-words T = record { view = T.view; root = T.root; words_are = T.words_are }

-- the nodes, the words and a fresh table on which the state names were marked
abbrev pub looked-up : {s nodes : List ℕ} {head : Image} {words : Words} {state : List Bool} → Admitted s head → Shown s nodes 0 (node_count s) → WordsOf s words → Made is_state nodes (replicate 1024 false) state → LookedUp s head nodes words state
looked-up {s} A S w f = record { image = A; area = S; words_are = w; state_marks = f (view_of S) (marks-none s A.admitted) }

abbrev pub looked-of : {s nodes : List ℕ} {head : Image} {words : Words} {state : List Bool} → LookedUp s head nodes words state → Looked nodes words state
looked-of L = record { view = view_of L.area; root = root-of L.area; words_are = L.words_are; state_marks = L.state_marks }
