-- To be skipped by a reader: the tests that find out what Model says. Demand 2 ties those of the three questions to their facts; that
-- each test finds out its fact is proved in proofs/Model.
use Rattle.std.specs.Prelude.{ℕ, Bool, not, ◌&&◌, ◌||◌, List, ltb, eqb}
use Rattle.rules.specs.Sweep.{same}
use Rattle.rules.specs.Tree.{Tree, the_name, first_argument, argument_name, asset, field, type}
use Rattle.rules.specs.Words.{QTOV, Q_Asset}
use Rattle.rules.specs.ComputeVocabulary.{some_below, named, declares, typed}

unfoldable pub is_state : Tree → List ℕ → Bool
is_state t w = declares t field t.root w

unfoldable pub is_state_typed : Tree → List ℕ → List ℕ → Bool
is_state_typed t v w =
    some_below t field t.root (λ f.
    named t w f
    && (typed t v f && (not (some_below t field t.root (λ g. ltb f g && named t w g)))))

unfoldable pub is_declared_asset : Tree → List ℕ → Bool
is_declared_asset t w = declares t asset t.root w

unfoldable pub inner : Tree → List ℕ → ℕ → Bool
inner t w y =
    same (t.text (the_name t y)) Q_Asset
    && (ltb (first_argument t y) (t.end y)
    && (eqb (t.kind (first_argument t y)) 11 && same (t.text (argument_name t y)) w))

unfoldable pub is_known_asset : Tree → List ℕ → Bool
is_known_asset t w =
    is_declared_asset t w || (same w QTOV || some_below t type t.root (inner t w))
