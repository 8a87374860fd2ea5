-- One node's part: what its kind, and what the tables note for its name, say of the rules 26 to 29.
use Prim.Native.Nat.{ℕ, ◌+◌, ◌<◌}
use mathlib.Core.Path.{◌≡◌, refl, ap, ◌∙◌, sym}
use mathlib.Core.Bool.{Bool, true, false}
use mathlib.Core.List.{List, ◌++◌}
use native.Mathlib.Omega.{arith}
use lib.Dec.{ltb, leb}
use Rattle.rules.specs.Sweep.{keep}
use Rattle.rules.specs.Tree.{Tree, param, «let»}
use Rattle.rules.specs.Vocabulary.{Rec, rec, only, first_named}
use Rattle.rules.specs.Resolve.{rule26, rule27, rule28, rule29, let_rules}
use Rattle.std.specs.Prelude.{Option}
use Rattle.records.specs.Records.{hit_list}
use Rattle.places.specs.Places.{first_of}
use Rattle.places.proofs.Reading.{first-late, first-declares}
use Rattle.resolve_names.specs.Seen.{met_rule, state_rule}

pub late-26 : (t : Tree) (e s i g : ℕ) → 0 < s → g ≡ first_of t «let» e (t.text i) → rule26 t e s i ≡ only (leb s g) (rec 26 i 0)
unfolding rule26
late-26 t e s i g z d = ap (λ (b : Bool). only b (rec 26 i 0)) (first-late t «let» e (t.text i) s z ∙ ap (leb s) (sym d))

pub declared-29 : (t : Tree) (e l g : ℕ) → g ≡ first_of t param e (t.text (l + 1)) → rule29 t e l ≡ only (ltb 0 g) (rec 29 l 0)
unfolding rule29
declared-29 t e l g d = ap (λ (b : Bool). only b (rec 29 l 0)) (first-declares t param e (t.text (l + 1)) ∙ ap (ltb 0) (sym d))

-- 27, then 28, then 29, at a node
pub lets_at : (t : Tree) (e p : ℕ) (b : Bool) → keep b (met_rule 27 «let» 0 t e) p ++ (keep b (state_rule 28 p t) p ++ keep b (rule29 t e) p) ≡ keep b (let_rules t e) p
unfolding keep rule27 rule28 let_rules
lets_at t e p true = let y : p + 0 ≡ p = omega arith in let z : first_named t «let» e p + 0 ≡ first_named t «let» e p = omega arith in rw (y, z)
lets_at t e p false = refl

-- a record about the node itself
pub at-itself : {X : Type 0} {F : X → List Rec} (c p : ℕ) (hit : Option ℕ) → ((x : X) → F x ≡ hit_list hit c (p + 0)) → (x : X) → F x ≡ hit_list hit c p
at-itself c p hit q = let e : p + 0 ≡ p = omega arith in rw e at q
