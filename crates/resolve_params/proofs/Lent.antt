-- What each function is lent: an entry, its parameters, the tables; and what 24 to 29 in an entry are.
use Prim.Native.Nat.{ℕ, ◌+◌, ◌<◌}
use mathlib.Core.Path.{◌≡◌, refl, sym}
use mathlib.Core.Bool.{Bool, true, false}
use mathlib.Core.List.{List, ◌++◌}
use lib.ListN.{replicate}
use Rattle.rules.specs.Sweep.{keep}
use Rattle.rules.specs.Tree.{Tree, param, statement}
use Rattle.rules.specs.Vocabulary.{below}
use Rattle.rules.specs.Resolve.{rule24, rule25, entry_names}
use Rattle.records.proofs.Sweep.{has_one, keep_one}
use Rattle.nodes.specs.Shown.{View, tree_of}
use Rattle.nodes.specs.State.{State}
use Rattle.places.proofs.Noting.{places-none}
use Rattle.resolve_names.specs.Seen.{Among, met_rule, state_rule}
use Rattle.resolve_names.proofs.Lent.{Firsts}
use Rattle.resolve_lets.specs.Scope.{Params, Scope, statement_names}
use Rattle.resolve_params.specs.Entries.{NoneNoted, NameTables, parameter_rules, item24}

-- node p of an entry
abbrev pub among-params : {nodes params : List ℕ} {state : List Bool} {entry p : ℕ} (T : Params nodes entry state params) → entry < p → p < (tree_of T.named.view).end entry → Among nodes 0 10 p params
among-params {entry = entry} T l h = record { view = T.named.view; holder = entry; after = l; inside = h; are_first = T.first_params }

-- an entry, once its parameters are noted
module _ {nodes params₀ lets₀ : List ℕ} {state : List Bool} (T : NameTables nodes state params₀ lets₀) where
  abbrev pub params_of : {e : ℕ} {params : List ℕ} → Firsts nodes param e params₀ params → Params nodes e state params
  params_of f = record { named = T.named; first_params = f T.named.view (λ w. 0) T.clean.0 }

  abbrev pub scope_of : {e : ℕ} {params : List ℕ} → Firsts nodes param e params₀ params → Scope nodes e state params lets₀
  scope_of f = record { lent = params_of f; clean = T.clean.1 }

-- tables that note nothing; fresh ones do
abbrev pub cleaned : {nodes params lets : List ℕ} {state : List Bool} (T : State nodes 0 state) → NoneNoted T params lets → NameTables nodes state params lets
cleaned T n = record { named = T; clean = n }

pub fresh : {nodes : List ℕ} {state : List Bool} (T : State nodes 0 state) → NoneNoted T (replicate 1024 0) (replicate 1024 0)
fresh T = let N = places-none T.view.image T.view.shown.admitted in (N, N)

-- 24, then 25, at a node
pub params_at : (t : Tree) (e p : ℕ) (b : Bool) → keep b (state_rule 24 (p + 1) t) p ++ keep b (met_rule 25 param 1 t e) p ≡ keep b (λ x. rule24 t x ++ rule25 t e x) p
unfolding keep rule24 rule25
params_at t e p true = refl
params_at t e p false = refl

-- 24 to 29 in an entry
pub entry-24 : {nodes : List ℕ} (W : View nodes 0) (e : ℕ) → (tree_of W).kind e ≡ 9 → parameter_rules (tree_of W) e ++ below (tree_of W) statement e (statement_names (tree_of W) e) ≡ item24 e (tree_of W)
unfolding entry_names
entry-24 W e k = sym (keep_one (entry_names (tree_of W)) e (has_one _ 9 k))
