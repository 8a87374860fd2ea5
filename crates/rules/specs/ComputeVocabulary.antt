-- To be skipped by a reader: the tests and sweeps that find out what Vocabulary says, by the same names in small letters. That each
-- finds out its fact is proved in proofs/Reflect.
use Rattle.std.specs.Prelude.{ℕ, suc, ◌-◌, Bool, true, false, not, ◌&&◌, List, [], ◌∷◌, ltb, eqb}
use Rattle.rules.specs.Sweep.{also, keep, some, first, has, same, has_word}
use Rattle.rules.specs.Tree.{Tree, the_name, type_name, signer_of, member_of, param, statement, call}
use Rattle.rules.specs.Record.{Rec}
use Rattle.rules.specs.Preorder.{below, is_child}

-- the record, if the test holds
unfoldable pub only : Bool → Rec → List Rec
only true r = r ∷ []
only false r = []

abbrev pub alone : ℕ → List ℕ
alone i = i ∷ []

-- a node below a of kind ks passes a test; the first that does (the end of a if none does)
unfoldable pub some_below : Tree → List ℕ → ℕ → (ℕ → Bool) → Bool
some_below t ks a p = some (λ i. also (has (t.kind i) ks) p i) (suc a) (t.end a - suc a)

unfoldable pub first_below : Tree → List ℕ → ℕ → (ℕ → Bool) → ℕ
first_below t ks a p = first (λ i. also (has (t.kind i) ks) p i) (suc a) (t.end a - suc a)

-- what each Call of item i contributes; one passes a test; so does an argument of a
unfoldable pub calls : {A : Type 0} → Tree → ℕ → (ℕ → List A) → List A
calls t i f = below t statement i (λ s. below t call s f)

unfoldable pub some_call : Tree → ℕ → (ℕ → Bool) → Bool
some_call t i p = some_below t statement i (λ s. some_below t call s p)

unfoldable pub some_argument : Tree → ℕ → (ℕ → Bool) → Bool
some_argument t a p = some (λ c. also (is_child t a c) p c) (suc (suc a)) (t.end a - suc (suc a))

unfoldable pub named : Tree → List ℕ → ℕ → Bool
named t w i = same (t.text (the_name t i)) w

unfoldable pub declares : Tree → List ℕ → ℕ → List ℕ → Bool
declares t ks a w = some_below t ks a (named t w)

unfoldable pub first_named : Tree → List ℕ → ℕ → ℕ → ℕ
first_named t ks a i = first_below t ks a (named t (t.text (the_name t i)))

-- what one comes to, going down; it passes a test
unfoldable pub down : Tree → List ℕ → ℕ → ℕ
down t ks x = first (λ j. not (has (t.kind j) ks)) x (t.end x - x)

unfoldable pub at_bottom : Tree → List ℕ → ℕ → (ℕ → Bool) → Bool
at_bottom t ks x p = also (ltb (down t ks x) (t.end x)) p (down t ks x)

unfoldable pub is_ident : Tree → List (List ℕ) → ℕ → Bool
is_ident t ws x = eqb (t.kind x) 35 && has_word (t.text x) ws

unfoldable pub is_field : Tree → List (List ℕ) → ℕ → Bool
is_field t ws x = eqb (t.kind x) 42 && has_word (t.text (member_of t x)) ws

unfoldable pub signers : Tree → ℕ → (ℕ → List Rec) → List Rec
signers t e f = below t param e (λ x. keep (ltb (signer_of t x) (t.end x)) f (signer_of t x))

unfoldable pub typed : Tree → List ℕ → ℕ → Bool
typed t w x = same (t.text (type_name t x)) w
