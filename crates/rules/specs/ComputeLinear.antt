-- To be skipped by a reader: what linear finds, entry by entry. Demands 2 and 3 tie the whole, `linear`, to the facts.
use Rattle.std.specs.Prelude.{ℕ, ◌+◌, Bool, not, ◌&&◌, ◌||◌, List, [], ◌∷◌, ◌++◌, ltb, eqb, length}
use Rattle.image.specs.Pick.{pick}
use Rattle.rules.specs.Sweep.{keep, has, same}
use Rattle.rules.specs.Tree.{Tree, the_name, type_of, value_of, assigned_of, callee_of, entry, param, burns, «let», assign, ident, param_let, peels}
use Rattle.rules.specs.Words.{Q_Asset, mint, split, readers}
use Rattle.rules.specs.Record.{Rec, rec}
use Rattle.rules.specs.Preorder.{below}
use Rattle.rules.specs.Vocabulary.{place_of, related_use}
use Rattle.rules.specs.ComputeVocabulary.{only, alone, some_below, some_call, some_argument, named, at_bottom, is_ident, is_field, typed}
use Rattle.rules.specs.ComputeModel.{inner}

unfoldable pub produces : Tree → ℕ → Bool
produces t l =
    at_bottom t peels (value_of t l)
    (λ v. eqb (t.kind v) 43 && ((is_field t (split ∷ []) (callee_of t v)) || (is_ident t (mint ∷ []) (callee_of t v))))

unfoldable pub is_row : Tree → ℕ → Bool
is_row t x =
    (has (t.kind x) param && typed t Q_Asset x) || (has (t.kind x) «let» && produces t x)

unfoldable pub is_alias : Tree → ℕ → ℕ → ℕ → Bool
is_alias t e l v =
    eqb (t.kind v) 35
    && ((some_below t param e (λ x. named t (t.text v) x && typed t Q_Asset x))
    || (some_below t «let» e (λ x. ltb x l && (named t (t.text v) x && produces t x))))

unfoldable pub rule60 : Tree → ℕ → ℕ → List Rec
rule60 t e l = only (at_bottom t peels (value_of t l) (is_alias t e l)) (rec 60 l 0)

unfoldable pub is_burned : Tree → ℕ → ℕ → Bool
is_burned t e y = some_below t burns e (λ c. inner t (t.text (the_name t c)) (type_of t y))

-- a row of x's name before it, after it
unfoldable pub is_earlier : Tree → ℕ → ℕ → Bool
is_earlier t e x =
    some_below t param_let e (λ z. ltb z x && (named t (t.text (the_name t x)) z && is_row t z))

unfoldable pub is_later : Tree → ℕ → ℕ → Bool
is_later t e x =
    some_below t param_let e (λ z. ltb x z && (named t (t.text (the_name t x)) z && is_row t z))

unfoldable pub marks : Tree → ℕ → ℕ → List ℕ
marks t e x =
    pick (is_earlier t e x) []
    (below t param e (λ y. keep (named t (t.text (the_name t x)) y && is_burned t e y) alone y))

unfoldable pub is_counted : Tree → ℕ → ℕ → Bool
is_counted t e i =
    some_below t assign e (λ s. eqb (assigned_of t s) i)
    || (some_call t e (λ c.
    not (is_field t readers (callee_of t c)) && some_argument t c (λ a. at_bottom t peels a (λ j. eqb j i))))

unfoldable pub uses : Tree → ℕ → ℕ → List ℕ
uses t e x =
    pick (is_later t e x) []
    (below t ident e (λ i. keep (same (t.text i) (t.text (the_name t x))) (λ j. keep (is_counted t e j) alone j) i))

unfoldable pub judged : ℕ → List ℕ → List ℕ → List Rec
judged p m l =
    only (eqb (length m + length l) 0) (rec 61 p 0)
    ++ only (ltb 1 (length m + length l)) (rec 62 p (related_use m l))

unfoldable pub row_rule : Tree → ℕ → ℕ → List Rec
row_rule t e x = judged (place_of t x) (marks t e x) (uses t e x)

unfoldable pub linear_entry : Tree → ℕ → List Rec
linear_entry t e =
    below t «let» e (rule60 t e) ++ below t param_let e (λ x. keep (is_row t x) (row_rule t e) x)

unfoldable pub linear : Tree → List Rec
linear t = below t entry t.root (linear_entry t)
