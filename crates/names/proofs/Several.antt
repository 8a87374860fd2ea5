-- The marks of the words of a list, one after another.
use Prim.Native.Nat.{ℕ}
use mathlib.Core.Path.{◌≡◌, refl, ◌∙◌}
use mathlib.Core.Bool.{Bool, true, false}
use mathlib.Core.List.{List, [], ◌∷◌}
use Rattle.rules.specs.Sweep.{either, same, has_word}
use Rattle.nodes.specs.Marks.{Marks}
use Rattle.nodes.proofs.Names.{marks-as, either-false}

-- the words of a list marked one after another, where P was
unfoldable pub marked : List (List ℕ) → (List ℕ → Bool) → List ℕ → Bool
marked [] P v = P v
marked (w ∷ ws) P v = marked ws (λ u. either (P u) (same u w)) v

pub either-assoc : (a b c : Bool) → either (either a b) c ≡ either a (either b c)
either-assoc true b c = refl
either-assoc false b c = refl

marked-is : (ws : List (List ℕ)) (P : List ℕ → Bool) (v : List ℕ) → marked ws P v ≡ either (P v) (has_word v ws)
unfolding marked has_word
marked-is [] P v = rw (either-false (P v))
marked-is (w ∷ ws) P v = marked-is ws (λ u. either (P u) (same u w)) v ∙ either-assoc (P v) (same v w) (has_word v ws)

pub marks-words : {s : List ℕ} (ws : List (List ℕ)) {r : List Bool} → Marks s (marked ws (λ _. false)) r → Marks s (λ w. has_word w ws) r
marks-words ws M = marks-as (marked-is ws (λ _. false)) M
