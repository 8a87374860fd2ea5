-- What each function is lent: a node of an entry's statements, the statements of an entry.
use Prim.Native.Nat.{ℕ, ◌<◌}
use mathlib.Core.Path.{◌≡◌}
use mathlib.Core.Bool.{Bool}
use mathlib.Core.List.{List, [], ◌∷◌}
use mathlib.Core.Logic.{inr}
use Rattle.rules.specs.Tree.{«let»}
use Rattle.nodes.specs.Shown.{Shown, In, tree_of}
use Rattle.nodes.specs.First.{Starts}
use Rattle.nodes.specs.State.{State}
use Rattle.nodes.specs.Statements.{Statements}
use Rattle.nodes.proofs.Steps.{statements-of, below-item}
use Rattle.places.specs.Places.{Places, first_of}
use Rattle.resolve_names.specs.Seen.{Among}
use Rattle.resolve_names.proofs.Lent.{Firsts}
use Rattle.resolve_lets.specs.Scope.{NamingBody, Scope}

-- node p of an entry's statements, with its Lets or its parameters
abbrev pub among_in : {nodes firsts : List ℕ} {base kind p : ℕ} (B : Statements nodes base) → In nodes base p → Places B.view.image (first_of (tree_of B.view) (kind ∷ []) B.item) firsts → Among nodes base kind p firsts
among_in B i f = record { view = B.view; holder = B.item; after = (below-item B i).0; inside = (below-item B i).1; are_first = f }

abbrev pub state-of : {nodes params lets : List ℕ} {state : List Bool} {base : ℕ} → NamingBody nodes base state params lets → State nodes base state
state-of T = record { view = T.scope.body.view; state_marks = T.state_marks }

-- an entry's statements, once its Lets are noted
abbrev pub body-in : {nodes params lets₀ : List ℕ} {state : List Bool} {e first : ℕ} {part lets : List ℕ} (T : Scope nodes e state params lets₀) → In nodes 0 e → 0 < e → (tree_of T.lent.named.view).kind e ≡ 9 → Starts T.lent.named.view e first
    → Shown T.lent.named.view.image part first ((tree_of T.lent.named.view).end e) → Firsts nodes «let» e lets₀ lets → NamingBody part first state params lets
body-in T i z k S P g = record {
  scope = record { body = statements-of T.lent.named.view i z (inr k) S P; first_lets = g T.lent.named.view (λ w. 0) T.clean };
  state_marks = T.lent.named.state_marks;
  first_params = T.lent.first_params;
}
