-- One node's part: what its kind, and the first of its name, say of the rules of met names.
use Prim.Native.Nat.{ℕ, ◌+◌, ◌<◌, ◌≤◌}
use mathlib.Core.Path.{◌≡◌, ap, ◌∙◌, sym}
use mathlib.Core.Bool.{Bool}
use mathlib.Core.List.{List, [], ◌∷◌}
use borrow.Author.Tests.{lt-ltb, le-ltb}
use lib.Dec.{ltb}
use Rattle.rules.specs.Tree.{Tree}
use Rattle.rules.specs.Vocabulary.{rec, only, Below}
use Rattle.places.specs.Places.{first_of}
use Rattle.places.proofs.Reading.{first-named}
use Rattle.resolve_names.specs.Seen.{met_rule}

-- where g is the first of its name: it is met before, or not
module _ (t : Tree) (ks : List ℕ) (a p g code name : ℕ) (B : Below t ks a p) (d : g ≡ first_of t ks a (t.text (p + 1))) where
  met-is : met_rule code ks name t a p ≡ only (ltb g p) (rec code (p + name) (g + name))
  met-is = rw (first-named t ks a p B, sym d)

  pub met-none : p ≤ g → met_rule code ks name t a p ≡ []
  unfolding only
  met-none l = met-is ∙ ap (λ (b : Bool). only b (rec code (p + name) (g + name))) (le-ltb g p l)

  pub met-one : g < p → met_rule code ks name t a p ≡ rec code (p + name) (g + name) ∷ []
  unfolding only
  met-one l = met-is ∙ ap (λ (b : Bool). only b (rec code (p + name) (g + name))) (lt-ltb g p l)
