-- To be skipped by a reader: the list of a row's reasons as it is computed. Demands ties it to the facts: of every admitted image it
-- is the one list that they allow.
use Rattle.std.specs.Prelude.{ℕ, suc, ◌-◌, Bool, not, ◌&&◌, ◌||◌, List, [], ◌∷◌, ◌++◌, ltb, eqb}
use Rattle.rules.specs.Sweep.{keep, has, first}
use Rattle.rules.specs.Tree.{Tree, the_name, type_of, assigned_of, callee_of, entry, burns, statement, assign, call, param_let, peels}
use Rattle.rules.specs.Words.{readers}
use Rattle.rules.specs.Vocabulary.{below, some_below, first_below, some_argument, at_bottom, is_field}
use Rattle.rules.specs.Model.{inner}
use Rattle.rules.specs.Linear.{is_row, place_of, marks, uses}

-- the first Burns clause that gives the mark of the parameter y
unfoldable pub clause_of : Tree → ℕ → ℕ → ℕ
clause_of t e y = first_below t burns e (λ c. inner t (t.text (the_name t c)) (type_of t y))

-- c, an Assign or a Call in a statement, consumes node i; the node that does
unfoldable pub takes : Tree → ℕ → ℕ → ℕ → Bool
takes t e i c =
    (has (t.kind c) assign && eqb (assigned_of t c) i)
    || (has (t.kind c) call
    && (some_below t statement e (λ s. ltb s c && ltb c (t.end s))
    && (not (is_field t readers (callee_of t c)) && some_argument t c (λ a. at_bottom t peels a (λ j. eqb j i)))))

unfoldable pub consumer_of : Tree → ℕ → ℕ → ℕ
consumer_of t e i = first (takes t e i) (suc e) (t.end e - suc e)

-- an entry's two words
abbrev pub clause_words : Tree → ℕ → ℕ → List ℕ
clause_words t e y = the_name t (clause_of t e y) ∷ 0 ∷ []

abbrev pub use_words : Tree → ℕ → ℕ → List ℕ
use_words t e i = i ∷ consumer_of t e i ∷ []

-- what f gives of each, one after the other
unfoldable pub each : (ℕ → List ℕ) → List ℕ → List ℕ
each f [] = []
each f (x ∷ l) = f x ++ each f l

unfoldable pub reasons : Tree → ℕ → ℕ → List ℕ
reasons t e x = each (clause_words t e) (marks t e x) ++ each (use_words t e) (uses t e x)

-- those of the row whose place p is; no list where there is no such row
unfoldable pub reasons_at : Tree → ℕ → List (List ℕ)
reasons_at t p =
    below t entry t.root (λ e.
    below t param_let e (λ x. keep (is_row t x) (λ z. keep (eqb (place_of t z) p) (λ y. reasons t e y ∷ []) z) x))
